-- What is kept of UNCOMPRESSED and CONTROL holds in each format.
use Rattle.std.proofs.Common.{◌≡◌, ◌∙◌, ap, refl, sym, subst, ℕ, zero, suc, ◌+◌, Bool, true, false, List, [], ◌∷◌, ◌++◌, Option, Some, None, Result, Ok, Err, IfOk, fold, cond, take, append_assoc, append-nil}
use Rattle.std.specs.Prelude.{is_some, slice_get, IfSome}
use Rattle.std.specs.List.{AllZip}
use Rattle.std.specs.Option.{option_and_then}
use Rattle.std.proofs.lemmas.List.{map-append}
use Rattle.std.proofs.lemmas.List.Sums.{fold-append}
use Rattle.text_tree.specs.declared.tree.Encoding.{Encoding as TreeEncoding}
use Rattle.text_tree.specs.declared.tree.Bound.{Bound}
use Rattle.text_tree.specs.declared.tree.Item.{Item}
use Rattle.text_tree.specs.declared.tree.Item.TheVariants as items
use Rattle.text_tree.specs.declared.tree.Section.{Section}
use Rattle.sem_expr.specs.declared.expr.Side.TheVariants.{Uncompressed}
use Rattle.sem_profile.proofs.Loops.{taken}
use Rattle.sem_profile.specs.declared.profile.Constraint.{Constraint}
use Rattle.sem_profile.specs.declared.profile.Encoding.{Encoding}
use Rattle.sem_profile.specs.Words.{word}
use Rattle.text_sections.specs.declared.mention.Mention.{Mention}
use Rattle.text_sections.specs.declared.mention.Group.TheVariants as groups
use Rattle.text_sections.specs.declared.table.Table.{Table}
use Rattle.text_sections.specs.Tables.{IsTable}
use Rattle.text_sections.specs.Fields.{in_field_order, encoding_at, encoding_of}
use Rattle.text_sections.specs.Mentions.{first_of, firsts, names_of, mentions_in}
use Rattle.text_statements.specs.Names.{Names, names}
use Rattle.text_statements.proofs.NamesStaying.{widened}
use Rattle.text_statements.specs.declared.callee.Methods.{Methods}
use Rattle.text_statements.specs.Constraints.{ItemMeans, item_fault}
use Rattle.text_methods.specs.declared.drafts.Setting.{Setting}
use Rattle.text_methods.specs.declared.kept.Kept.{Kept}
use Rattle.text_methods.specs.declared.kept.KeptStatement.{KeptStatement}
use Rattle.text_methods.specs.Encodings.{GivenMeans, encoded, given_fault, FieldMeans, field_fault}
use Rattle.text_methods.specs.Kept.{names_field, Says, IsGiven, Gives, gives, IsKept, SectionIsKept, each, none, AreKept, base_scope, HasKept, statement_at, AreSaid, AreGiven}
use Rattle.text_methods.proofs.EncodingsGathering.{all_more}
use Rattle.text_methods.proofs.KeptStaying.{said_stays, gives_stays}

-- ---- lists side by side

-- one more element
pub zip_next : {A B : Type 0} (R : A → B → Type 0) (xs : List A) (i : ℕ) (x : A) (ys new : List B) (y : B) → slice_get xs i ≡ Some x → AllZip R (take i xs) ys → R x y → new ≡ ys ++ y ∷ []
    → AllZip R (take (i + 1) xs) new
zip_next R xs i x ys new y here so r is = rw (taken xs i x here, is) (all_more R (take i xs) ys x y so r)

zip_at : {A B : Type 0} (R : A → B → Type 0) (xs : List A) (ys : List B) (i : ℕ) (y : B) → AllZip R xs ys → slice_get ys i ≡ Some y → (x : A) × (slice_get xs i ≡ Some x) × R x y
zip_at R [] [] zero y all at = let wrong : None ≡ Some y = at in absurd cc
zip_at R [] [] (suc i) y all at = let wrong : None ≡ Some y = at in absurd cc
zip_at R [] (z ∷ ys) i y all at = absurd all
zip_at R (x ∷ xs) [] i y all at = absurd all
zip_at R (x ∷ xs) (z ∷ ys) zero y all at = let same : z ≡ y = cc in (x, refl, subst (R x) same all.0)
zip_at R (x ∷ xs) (z ∷ ys) (suc i) y all at = zip_at R xs ys i y all.1 at

zip_as : {A B : Type 0} (R S : A → B → Type 0) (f : (x : A) (y : B) → R x y → S x y) (xs : List A) (ys : List B) → AllZip R xs ys → AllZip S xs ys
zip_as R S f [] [] h = tt
zip_as R S f [] (y ∷ ys) h = absurd h
zip_as R S f (x ∷ xs) [] h = absurd h
zip_as R S f (x ∷ xs) (y ∷ ys) h = (f x y h.0, zip_as R S f xs ys h.1)

-- ---- what is kept of one statement

pub said_here : (s : Names) (item : Item) (cs : List Constraint) (b : Bool) → b ≡ names_field s item → b ≡ true → ItemMeans s Uncompressed item cs → item_fault s item ≡ None → Says s item cs
said_here s item cs b is e means fine = record { named = sym is ∙ e; means = means; fine = fine }

pub bound_kept : {E : Type 0} (s : Names) (methods : Methods) (b : Bound) (r : Result (Option Encoding) E) → IfOk r (λ kept. IfSome kept (IsGiven s methods b.encoding))
    → IfOk r (λ kept. IfSome kept (Gives s methods (items.Bound b)))
bound_kept s methods b (Ok (Some e)) h = gives refl h
bound_kept s methods b (Ok None) h = tt
bound_kept s methods b (Err e) h = tt

-- ---- among more fields

some_as : {X : Type 0} (P Q : X → Type 0) (f : (x : X) → P x → Q x) (o : Option X) → IfSome o P → IfSome o Q
some_as P Q f (Some x) h = f x h
some_as P Q f None h = tt

kept_stays : (s : Names) (more : List (List ℕ)) (methods : Methods) (item : Item) (t : KeptStatement) → IsKept s methods item t → IsKept (widened s more) methods item t
kept_stays s more methods item t h = record {
  constraints = some_as (Says s item) (Says (widened s more) item) (λ cs. said_stays s more item cs) t.constraints h.constraints;
  encoding = some_as (Gives s methods item) (Gives (widened s more) methods item) (λ e. gives_stays s more methods item e) t.encoding h.encoding;
}

section_stays : (s : Names) (more : List (List ℕ)) (methods : Methods) (section : Section) (ts : List KeptStatement) → SectionIsKept s methods section ts → SectionIsKept (widened s more) methods section ts
section_stays s more methods section ts (each all) = each (zip_as (IsKept s methods) (IsKept (widened s more) methods) (kept_stays s more methods) section.items ts all)
section_stays s more methods section ts none = none

all_stay : (s : Names) (more : List (List ℕ)) (methods : Methods) (sections : List Section) (kept : Kept) → AreKept s methods sections kept → AreKept (widened s more) methods sections kept
all_stay s more methods sections kept all = zip_as (SectionIsKept s methods) (SectionIsKept (widened s more) methods) (section_stays s more methods) sections kept.sections all

-- ---- a format's fields begin with those of UNCOMPRESSED and CONTROL

abbrev Grows : List ℕ → List Mention → List Mention → List Mention → Type 0
Grows text ms before all = (more : List Mention) × (fold (λ kept m. cond (is_some (first_of text kept (word text m.name))) kept (kept ++ m ∷ [])) all ms ≡ before ++ more)

grown : (text : List ℕ) (ms kept : List Mention) → Grows text ms kept kept
grown text [] kept = ([], sym (append-nil kept))
grown text (m ∷ ms) kept = by (is_some (first_of text kept (word text m.name))) (grown text ms kept) (grown text ms (kept ++ m ∷ []))
  where
    by : (b : Bool) → Grows text ms kept kept → Grows text ms (kept ++ m ∷ []) (kept ++ m ∷ []) → Grows text ms kept (cond b kept (kept ++ m ∷ []))
    by true a b = a
    by false a b = (m ∷ b.0, b.1 ∙ append_assoc kept (m ∷ []) b.0)

abbrev base_fields : List ℕ → List Section → List Mention
base_fields text sections = mentions_in text groups.Header 0 sections ++ mentions_in text groups.Control 0 sections

names_begin : (text : List ℕ) (sections : List Section) (own : List Mention)
    → (more : List (List ℕ)) × (names_of text (firsts text (in_field_order text sections own)) ≡ names_of text (firsts text (in_field_order text sections [])) ++ more)
names_begin text sections own =
    let base = base_fields text sections in
    let g = grown text own (firsts text base) in
    let first : firsts text (in_field_order text sections own) ≡ firsts text base ++ g.0 =
    fold-append (λ (kept : List Mention) (m : Mention). cond (is_some (first_of text kept (word text m.name))) kept (kept ++ m ∷ [])) [] base own ∙ g.1 in
    let same : firsts text (in_field_order text sections []) ≡ firsts text base = ap (firsts text) (append-nil base) in
    (names_of text g.0, ap (names_of text) first ∙ map-append (λ (m : Mention). word text m.name) (firsts text base) g.0 ∙ ap (λ all. names_of text all ++ names_of text g.0) (sym same))

-- what is kept holds in the scope of each format
pub kept_in_format : (x : Setting) (own : List Mention) (kept : Kept) → HasKept x kept
    → AreKept (names x.text.now x.constants.now x.values.now x.parameters.now (names_of x.text.now (firsts x.text.now (in_field_order x.text.now x.sections.now own)))) x.methods.now x.sections.now kept
kept_in_format x own kept has =
    let begin = names_begin x.text.now x.sections.now own in
    subst (λ fields. AreKept (names x.text.now x.constants.now x.values.now x.parameters.now fields) x.methods.now x.sections.now kept) (sym begin.1)
    (all_stay (base_scope x) begin.0 x.methods.now x.sections.now kept has.statements)

-- the scope that the code makes of a table of fields
scope_is : (x : Setting) (s : Names) (own : List Mention) (fields : Table) → s ≡ names x.text.now x.constants.now x.values.now x.parameters.now fields.words
    → IsTable x.text.now (in_field_order x.text.now x.sections.now own) fields
    → s ≡ names x.text.now x.constants.now x.values.now x.parameters.now (names_of x.text.now (firsts x.text.now (in_field_order x.text.now x.sections.now own)))
scope_is x s own fields is table =
    is ∙ ap (names x.text.now x.constants.now x.values.now x.parameters.now) (table.words_are ∙ ap (names_of x.text.now) table.firsts_are)

pub kept_in_scope : (x : Setting) (s : Names) (own : List Mention) (fields : Table) (kept : Kept) → s ≡ names x.text.now x.constants.now x.values.now x.parameters.now fields.words
    → IsTable x.text.now (in_field_order x.text.now x.sections.now own) fields → HasKept x kept → AreKept s x.methods.now x.sections.now kept
kept_in_scope x s own fields kept is table has =
    subst (λ z. AreKept z x.methods.now x.sections.now kept) (sym (scope_is x s own fields is table)) (kept_in_format x own kept has)

-- the fields of a format, by the table of those of UNCOMPRESSED and CONTROL
pub of_own : (x : Setting) (own : List Mention) (kept : Kept) (table : Table) → HasKept x kept
    → ((before : List Mention) → IsTable x.text.now before kept.table → IsTable x.text.now (before ++ own) table) → IsTable x.text.now (in_field_order x.text.now x.sections.now own) table
of_own x own kept table has grows =
    subst (λ before. IsTable x.text.now (before ++ own) table) (append-nil (base_fields x.text.now x.sections.now)) (grows (in_field_order x.text.now x.sections.now []) has.table)

pub kept_of_base : (x : Setting) (s : Names) (fields : Table) (kept : Kept) → s ≡ names x.text.now x.constants.now x.values.now x.parameters.now fields.words
    → IsTable x.text.now (in_field_order x.text.now x.sections.now []) fields → AreKept s x.methods.now x.sections.now kept → AreKept (base_scope x) x.methods.now x.sections.now kept
kept_of_base x s fields kept is table has = subst (λ z. AreKept z x.methods.now x.sections.now kept) (scope_is x s [] fields is table) has

-- ---- what is looked up

statement_of : (s : Names) (methods : Methods) (section : Section) (ts : List KeptStatement) (i : ℕ) (t : KeptStatement) → SectionIsKept s methods section ts → slice_get ts i ≡ Some t
    → (item : Item) × (slice_get section.items i ≡ Some item) × IsKept s methods item t
statement_of s methods section ts i t (each all) at = zip_at (IsKept s methods) section.items ts i t all at
statement_of s methods section ts zero t none at = let wrong : None ≡ Some t = at in absurd cc
statement_of s methods section ts (suc i) t none at = let wrong : None ≡ Some t = at in absurd cc

-- the statement at a place, and what is kept of it
record Found (s : Names) (methods : Methods) (sections : List Section) (k i : ℕ) (t : KeptStatement) : Type 0 where
  pub section : Section
  pub section_at : slice_get sections k ≡ Some section
  pub item : Item
  pub item_at : slice_get section.items i ≡ Some item
  pub is_kept : IsKept s methods item t

found_in : (s : Names) (methods : Methods) (sections : List Section) (kept : Kept) (k i : ℕ) (t : KeptStatement) (o : Option (List KeptStatement)) → AreKept s methods sections kept → slice_get kept.sections k ≡ o
    → option_and_then (λ statements. slice_get statements i) o ≡ Some t → Found s methods sections k i t
found_in s methods sections kept k i t (Some ts) all at is =
    let here = zip_at (SectionIsKept s methods) sections kept.sections k ts all at in
    let one = statement_of s methods here.0 ts i t here.2 is in
    record { section = here.0; section_at = here.1; item = one.0; item_at = one.1; is_kept = one.2 }
found_in s methods sections kept k i t None all at is = absurd cc

found : (s : Names) (methods : Methods) (sections : List Section) (kept : Kept) (k i : ℕ) (t : KeptStatement) → AreKept s methods sections kept → statement_at kept k i ≡ Some t → Found s methods sections k i t
found s methods sections kept k i t all is = found_in s methods sections kept k i t (slice_get kept.sections k) all refl is

same_some : {X : Type 0} {x y : X} → Some x ≡ Some y → x ≡ y
same_some e = cc

said_by : (s : Names) (methods : Methods) (sections : List Section) (kept : Kept) (k i : ℕ) (section : Section) (item : Item) (cs : List Constraint) (o : Option KeptStatement) → AreKept s methods sections kept
    → slice_get sections k ≡ Some section → slice_get section.items i ≡ Some item → statement_at kept k i ≡ o → option_and_then (λ (t : KeptStatement). t.constraints) o ≡ Some cs → Says s item cs
said_by s methods sections kept k i section item cs (Some t) all at item_at here is =
    let f = found s methods sections kept k i t all here in
    let same_section : f.section ≡ section = same_some (sym f.section_at ∙ at) in
    let same_item : f.item ≡ item = same_some (sym (subst (λ z. slice_get z.items i ≡ Some f.item) same_section f.item_at) ∙ item_at) in
    subst (λ z. Says s z cs) same_item (subst (λ o. IfSome o (Says s f.item)) is f.is_kept.constraints)
said_by s methods sections kept k i section item cs None all at item_at here is = absurd cc

pub are_said : (s : Names) (methods : Methods) (sections : List Section) (kept : Kept) → AreKept s methods sections kept → AreSaid s kept sections
are_said s methods sections kept all k section at i item item_at cs is = said_by s methods sections kept k i section item cs (statement_at kept k i) all at item_at refl is

-- the encoding that a statement gives, as the encoding of a field
field_given : (s : Names) (methods : Methods) (sections : List Section) (m : Mention) (g : TreeEncoding) (e : Encoding) → encoding_at sections m ≡ Some g → IsGiven s methods g e
    → FieldMeans s methods sections (Some m) e × (field_fault s methods sections (Some m) ≡ None)
field_given s methods sections m g e at h = (subst (λ o. GivenMeans s methods o e) (sym at) (encoded h.means), ap (given_fault s methods) at ∙ h.fine)

pub at_place : (sections : List Section) (m : Mention) (section : Section) (item : Item) → slice_get sections m.section ≡ Some section → slice_get section.items m.item ≡ Some item
    → encoding_at sections m ≡ encoding_of item
at_place sections m section item at item_at =
    ap (option_and_then (λ (z : Section). option_and_then encoding_of (slice_get z.items m.item))) at ∙ ap (option_and_then encoding_of) item_at

given_by : (s : Names) (methods : Methods) (sections : List Section) (m : Mention) (item : Item) (e : Encoding) → encoding_at sections m ≡ encoding_of item → Gives s methods item e
    → FieldMeans s methods sections (Some m) e × (field_fault s methods sections (Some m) ≡ None)
given_by s methods sections m item e at (gives {given = g} is h) = field_given s methods sections m g e (at ∙ is) h

kept_by : (s : Names) (methods : Methods) (sections : List Section) (kept : Kept) (m : Mention) (e : Encoding) (o : Option KeptStatement) → AreKept s methods sections kept
    → statement_at kept m.section m.item ≡ o → option_and_then (λ (t : KeptStatement). t.encoding) o ≡ Some e
    → FieldMeans s methods sections (Some m) e × (field_fault s methods sections (Some m) ≡ None)
kept_by s methods sections kept m e (Some t) all here is =
    let f = found s methods sections kept m.section m.item t all here in
    given_by s methods sections m f.item e (at_place sections m f.section f.item f.section_at f.item_at) (subst (λ o. IfSome o (Gives s methods f.item)) is f.is_kept.encoding)
kept_by s methods sections kept m e None all here is = absurd cc

pub are_given : (s : Names) (methods : Methods) (sections : List Section) (kept : Kept) → AreKept s methods sections kept → AreGiven s methods kept sections
are_given s methods sections kept all m e is = kept_by s methods sections kept m e (statement_at kept m.section m.item) all refl is
