-- A call of a format's field is a call of the text.
use Rattle.std.proofs.Common.{◌≡◌, ◌∙◌, ap, ℕ, suc, zero, ◌+◌, Bool, true, false, cond, List, [], ◌∷◌, ◌++◌, refl, sym, subst, map, arith}
use Rattle.std.specs.Prelude.{slice_get, Option, Some, None, find, filter, position}
use Rattle.std.specs.List.{AllByRecursion, AllZip, filter_map, flat_map, cons_option}
use Rattle.std.specs.Option.{option_map, option_or, option_and_then}
use Rattle.std.specs.Str.{bytes_eq}
use Rattle.text_source.specs.declared.span.Span.{Span}
use Rattle.text_tree.specs.declared.tree.Expr.{Expr as Tree}
use Rattle.text_tree.specs.declared.tree.Encoding.{Encoding as TreeEncoding}
use Rattle.text_tree.specs.declared.tree.Encoding.TheVariants as given
use Rattle.text_tree.specs.declared.tree.Item.{Item}
use Rattle.text_tree.specs.declared.tree.Item.TheVariants as items
use Rattle.text_tree.specs.declared.tree.Method.{Method as TreeMethod}
use Rattle.text_tree.specs.declared.tree.Section.{Section}
use Rattle.text_tree.specs.declared.tree.SectionKind.{SectionKind}
use Rattle.text_tree.specs.declared.tree.SectionKind.TheVariants as kinds
use Rattle.sem_expr.specs.declared.expr.Expr.{Expr}
use Rattle.sem_profile.specs.declared.profile.Encoding.{Encoding}
use Rattle.sem_profile.specs.declared.profile.Encoding.TheVariants as encoding
use Rattle.sem_profile.specs.declared.profile.Field.{Field}
use Rattle.sem_profile.specs.declared.profile.Format.{Format}
use Rattle.sem_profile.specs.Words.{word}
use Rattle.sem_graph.specs.Calls.{Has}
use Rattle.sem_graph.proofs.OrderPushing.{some_is}
use Rattle.text_statements.specs.Names.{Names}
use Rattle.text_statements.specs.declared.callee.Callee.{Callee}
use Rattle.text_statements.specs.declared.callee.Callee.TheVariants as callees
use Rattle.text_statements.specs.declared.callee.Methods.{Methods}
use Rattle.text_statements.specs.Callees.{library, callee}
use Rattle.text_statements.specs.Encodings.{Calls, Means, bits, call, uncompressed_value, compressed_value, irregular, static, lsb, crc, own}
use Rattle.text_sections.specs.declared.mention.Mention.{Mention}
use Rattle.text_sections.specs.declared.mention.Group.{Group}
use Rattle.text_sections.specs.declared.mention.Group.TheVariants as groups
use Rattle.text_sections.specs.Mentions.{is_in, mentions_from, mentions_of, mentions_in, first_of, encoded}
use Rattle.text_sections.specs.Fields.{encoding_of, encoding_at}
use Rattle.text_sections.specs.Fields as sections
use Rattle.text_methods.specs.declared.drafts.Setting.{Setting}
use Rattle.text_methods.specs.Drafts as drafts
use Rattle.text_methods.specs.Encodings as means
use Rattle.text_methods.specs.Encodings.{GivenMeans, FieldMeans, bare}
use Rattle.text_methods.specs.Fields.{joined}
use Rattle.text_methods.specs.Formats.{IsFormat}
use Rattle.text_tree.specs.Limits.{is_initial_kind}
use Rattle.text_resolve.specs.declared.calls.CallSite.{CallSite}
use Rattle.text_resolve.specs.Calls.{call_by, call_of, calls_in, calls_from, callees_of}

-- ---- elements of lists made from lists

abbrev IsIn : {X : Type 0} → List X → X → Type 0
IsIn xs y = (k : ℕ) × (slice_get xs k ≡ Some y)

in_left : {X : Type 0} (xs ys : List X) (k : ℕ) (y : X) → slice_get xs k ≡ Some y → slice_get (xs ++ ys) k ≡ Some y
in_left [] ys k y at = let wrong : None ≡ Some y = at in absurd cc
in_left (x ∷ xs) ys zero y at = at
in_left (x ∷ xs) ys (suc k) y at = in_left xs ys k y at

in_right : {X : Type 0} (xs ys : List X) (y : X) → IsIn ys y → IsIn (xs ++ ys) y
in_right [] ys y is = is
in_right (x ∷ xs) ys y is = let rest = in_right xs ys y is in (suc rest.0, rest.1)

in_after : {X : Type 0} (o : Option X) (xs : List X) (y : X) → IsIn xs y → IsIn (cons_option o xs) y
in_after (Some x) xs y is = (suc is.0, is.1)
in_after None xs y is = is

in_found : {X Y : Type 0} (h : X → Option Y) (xs : List X) (k : ℕ) (x : X) (y : Y) → slice_get xs k ≡ Some x → h x ≡ Some y → IsIn (filter_map h xs) y
in_found h [] k x y at is = let wrong : None ≡ Some x = at in absurd cc
in_found h (z ∷ zs) zero x y at is =
    let same : z ≡ x = some_is at in
    subst (λ o. IsIn (cons_option o (filter_map h zs)) y) (sym (ap h same ∙ is)) (0, refl)
in_found h (z ∷ zs) (suc k) x y at is = in_after (h z) (filter_map h zs) y (in_found h zs k x y at is)

in_spread : {X Y : Type 0} (f : X → List Y) (xs : List X) (k : ℕ) (x : X) (y : Y) → slice_get xs k ≡ Some x → IsIn (f x) y → IsIn (flat_map f xs) y
in_spread f [] k x y at is = let wrong : None ≡ Some x = at in absurd cc
in_spread f (z ∷ zs) zero x y at is =
    let same : z ≡ x = some_is at in
    let here = subst (λ w. IsIn (f w) y) (sym same) is in
    (here.0, in_left (f z) (flat_map f zs) here.0 y here.1)
in_spread f (z ∷ zs) (suc k) x y at is = in_right (f z) (flat_map f zs) y (in_spread f zs k x y at is)

has_made : {X : Type 0} (f : X → ℕ) (xs : List X) (k : ℕ) (x : X) → slice_get xs k ≡ Some x → Has (map f xs) (f x)
has_made f [] k x at = let wrong : None ≡ Some x = at in absurd cc
has_made f (z ∷ zs) zero x at = (0, omega arith, ap f (some_is at))
has_made f (z ∷ zs) (suc k) x at = let rest = has_made f zs k x at in let below = rest.1 in (suc rest.0, omega arith, rest.2)

has_site : (cs : List CallSite) (c : CallSite) (k : ℕ) → IsIn cs c → c.method ≡ k → Has (map (λ d. d.method) cs) k
has_site cs c k is same = subst (Has (map (λ d. d.method) cs)) same (has_made (λ (d : CallSite). d.method) cs is.0 c is.1)

-- ---- mentions that are in no INITIAL

all_both : {X : Type 0} (P : X → Type 0) (xs ys : List X) → AllByRecursion P xs → AllByRecursion P ys → AllByRecursion P (xs ++ ys)
all_both P [] ys p q = q
all_both P (x ∷ xs) ys p q = (p.0, all_both P xs ys p.1 q)

all_as : {X : Type 0} (P Q : X → Type 0) → ((x : X) → P x → Q x) → (xs : List X) → AllByRecursion P xs → AllByRecursion Q xs
all_as P Q into [] all = tt
all_as P Q into (x ∷ xs) all = (into x all.0, all_as P Q into xs all.1)

all_filtered : {X : Type 0} (P : X → Type 0) (test : X → Bool) (xs : List X) → AllByRecursion P xs → AllByRecursion P (filter test xs)
all_filtered P test [] all = tt
all_filtered P test (x ∷ xs) all = by (test x) (all_filtered P test xs all.1)
  where
    by : (b : Bool) → AllByRecursion P (filter test xs) → AllByRecursion P (cond b (x ∷ filter test xs) (filter test xs))
    by true rest = (all.0, rest)
    by false rest = rest

of_found : {X : Type 0} (P : X → Type 0) (test : X → Bool) (xs : List X) (y : X) → AllByRecursion P xs → find test xs ≡ Some y → P y
of_found P test [] y all h = let wrong : None ≡ Some y = h in absurd cc
of_found P test (x ∷ xs) y all h = by (test x) h (λ rest. of_found P test xs y all.1 rest)
  where
    by : (b : Bool) → cond b (Some x) (find test xs) ≡ Some y → (find test xs ≡ Some y → P y) → P y
    by true h more = subst P (some_is h) all.0
    by false h more = more h

-- the section of the mention is no INITIAL
abbrev IsCounted : List Section → Mention → Type 0
IsCounted ss c = (s : Section) → slice_get ss c.section ≡ Some s → is_initial_kind s.kind ≡ false

all_there : (text : List ℕ) (section first : ℕ) (xs : List Item) → AllByRecursion (λ (c : Mention). c.section ≡ section) (mentions_from text section first xs)
all_there text section first [] = tt
all_there text section first (items.Field name bracket ∷ xs) = (refl, all_there text section (first + 1) xs)
all_there text section first (items.Bound b ∷ xs) = (refl, all_there text section (first + 1) xs)
all_there text section first (items.Enforce at condition ∷ xs) = all_there text section (first + 1) xs

section_counted : (text : List ℕ) (whole : List Section) (number : ℕ) (s : Section) → slice_get whole number ≡ Some s → is_initial_kind s.kind ≡ false → AllByRecursion (IsCounted whole) (mentions_of text number s.items)
section_counted text whole number s at is =
    all_as (λ (c : Mention). c.section ≡ number) (IsCounted whole)
    (λ c there t here. let same : s ≡ t = some_is (sym at ∙ subst (λ n. slice_get whole n ≡ Some t) there here) in subst (λ u. is_initial_kind u.kind ≡ false) same is)
    (mentions_of text number s.items) (all_there text number 0 s.items)

group_counted : (text : List ℕ) (group : Group) (whole : List Section) → ((kind : SectionKind) → is_in group kind ≡ true → is_initial_kind kind ≡ false) → (first : ℕ) (ss : List Section)
    → ((j : ℕ) (s : Section) → slice_get ss j ≡ Some s → slice_get whole (first + j) ≡ Some s) → AllByRecursion (IsCounted whole) (mentions_in text group first ss)
group_counted text group whole counts first [] part = tt
group_counted text group whole counts first (s ∷ ss) part =
    all_both (IsCounted whole) (cond (is_in group s.kind) (mentions_of text first s.items) []) (mentions_in text group (first + 1) ss)
    (by (is_in group s.kind) refl)
    (group_counted text group whole counts (first + 1) ss (λ j t at. subst (λ n. slice_get whole n ≡ Some t) (let n : first + suc j ≡ first + 1 + j = omega arith in n) (part (suc j) t at)))
  where
    by : (b : Bool) → is_in group s.kind ≡ b → AllByRecursion (IsCounted whole) (cond b (mentions_of text first s.items) [])
    by true e = section_counted text whole first s (subst (λ n. slice_get whole n ≡ Some s) (let n : first + 0 ≡ first = omega arith in n) (part 0 s refl)) (counts s.kind e)
    by false e = tt

base_counts : (kind : SectionKind) → is_in groups.Base kind ≡ true → is_initial_kind kind ≡ false
base_counts kinds.Uncompressed e = refl
base_counts kinds.Control e = refl
base_counts kinds.Initial e = absurd cc
base_counts kinds.Default e = refl
base_counts (kinds.Compressed name) e = refl

default_counts : (kind : SectionKind) → is_in groups.Default kind ≡ true → is_initial_kind kind ≡ false
default_counts kinds.Uncompressed e = refl
default_counts kinds.Control e = refl
default_counts kinds.Initial e = absurd cc
default_counts kinds.Default e = refl
default_counts (kinds.Compressed name) e = refl

format_counts : (kind : SectionKind) → is_in groups.Formats kind ≡ true → is_initial_kind kind ≡ false
format_counts kinds.Uncompressed e = refl
format_counts kinds.Control e = refl
format_counts kinds.Initial e = absurd cc
format_counts kinds.Default e = refl
format_counts (kinds.Compressed name) e = refl

whole_counted : (text : List ℕ) (group : Group) (ss : List Section) → ((kind : SectionKind) → is_in group kind ≡ true → is_initial_kind kind ≡ false) → AllByRecursion (IsCounted ss) (mentions_in text group 0 ss)
whole_counted text group ss counts = group_counted text group ss counts 0 ss (λ j s at. subst (λ n. slice_get ss n ≡ Some s) (let n : j ≡ 0 + j = omega arith in n) at)

one_of_three : {X : Type 0} (P : X → Type 0) (a b c : Option X) (x : X) → (a ≡ Some x → P x) → (b ≡ Some x → P x) → (c ≡ Some x → P x) → option_or (option_or a b) c ≡ Some x → P x
one_of_three P (Some y) b c x in_a in_b in_c h = in_a h
one_of_three P None (Some y) c x in_a in_b in_c h = in_b h
one_of_three P None None c x in_a in_b in_c h = in_c h

-- the statement that encodes a field stands in no INITIAL
chosen_counted : (x : Setting) (number : ℕ) (section : Section) (m c : Mention) → slice_get x.sections.now number ≡ Some section → is_in groups.Formats section.kind ≡ true
    → sections.encoding x.text.now (first_of x.text.now (drafts.base x)) (first_of x.text.now (encoded (drafts.own x number section))) (first_of x.text.now (drafts.default x)) m ≡ Some c → IsCounted x.sections.now c
chosen_counted x number section m c at is h =
    let text = x.text.now in
    let name = word text m.name in
    let counted = IsCounted x.sections.now in
    let own = mentions_of text number section.items in
    one_of_three counted (first_of text (drafts.base x) name) (first_of text (encoded own) name) (first_of text (drafts.default x) name) c
    (λ e. of_found counted (λ t. bytes_eq name (word text t.name)) (drafts.base x) c
    (all_filtered counted (λ t. t.is_encoded) (mentions_in text groups.Base 0 x.sections.now) (whole_counted text groups.Base x.sections.now base_counts)) e)
    (λ e. of_found counted (λ t. bytes_eq name (word text t.name)) (encoded own) c
    (all_filtered counted (λ t. t.is_encoded) own (section_counted text x.sections.now number section at (format_counts section.kind is))) e)
    (λ e. of_found counted (λ t. bytes_eq name (word text t.name)) (drafts.default x) c
    (all_filtered counted (λ t. t.is_encoded) (mentions_in text groups.Default 0 x.sections.now) (whole_counted text groups.Default x.sections.now default_counts)) e)
    h

-- ---- what a call of a format means

-- the method of a call of the tree
record Named (text : List ℕ) (names : List (List ℕ)) (e : TreeEncoding) (k : ℕ) : Type 0 where
  name : Span
  arguments : List Tree
  is : e ≡ given.Call name arguments
  at : position (bytes_eq (word text name)) names ≡ Some k

not_own_or : (k : ℕ) (b : Bool) (c : Callee) (o : Option Callee) → (Some c ≡ Some (callees.Own k) → ⊥) → (o ≡ Some (callees.Own k) → ⊥) → cond b (Some c) o ≡ Some (callees.Own k) → ⊥
not_own_or k true c o here rest h = here h
not_own_or k false c o here rest h = rest h

library_not_own : (name : List ℕ) (k : ℕ) → library name ≡ Some (callees.Own k) → ⊥
library_not_own name k =
    not_own_or k _ callees.UncompressedValue _ (λ h. absurd cc)
    (not_own_or k _ callees.CompressedValue _ (λ h. absurd cc)
    (not_own_or k _ callees.Irregular _ (λ h. absurd cc)
    (not_own_or k _ callees.Static _ (λ h. absurd cc)
    (not_own_or k _ callees.Lsb _ (λ h. absurd cc)
    (not_own_or k _ callees.Crc None (λ h. absurd cc) (λ h. absurd cc))))))

own_place : (o : Option ℕ) (k : ℕ) → option_map callees.Own o ≡ Some (callees.Own k) → o ≡ Some k
own_place (Some j) k h = let same : callees.Own j ≡ callees.Own k = some_is h in ap Some cc
own_place None k h = let wrong : None ≡ Some (callees.Own k) = h in absurd cc

own_at : (methods : Methods) (name : List ℕ) (k : ℕ) → callee methods name ≡ Some (callees.Own k) → position (bytes_eq name) methods.names.now ≡ Some k
own_at methods name k h = by (library name) refl h
  where
    by : (o : Option Callee) → library name ≡ o → option_or o (option_map callees.Own (position (bytes_eq name) methods.names.now)) ≡ Some (callees.Own k) → position (bytes_eq name) methods.names.now ≡ Some k
    by (Some c) e h = absurd (library_not_own name k (e ∙ h))
    by None e h = own_place (position (bytes_eq name) methods.names.now) k h

called_own : (s : Names) (methods : Methods) (c : Callee) (arguments : List Tree) (r : Encoding) (k : ℕ) (es : List Expr) → Calls s methods c arguments r → r ≡ encoding.Call k es → c ≡ callees.Own k
called_own s methods c arguments r k es (uncompressed_value p are) h = absurd cc
called_own s methods c arguments r k es (compressed_value p are) h = absurd cc
called_own s methods c arguments r k es (irregular is) h = absurd cc
called_own s methods c arguments r k es (static are) h = absurd cc
called_own s methods c arguments r k es (lsb p are) h = absurd cc
called_own s methods c arguments r k es (crc are) h = absurd cc
called_own s methods c arguments r k es (own {k = j} {es = fs} are) h = ap callees.Own cc

named_by : (s : Names) (methods : Methods) (e : TreeEncoding) (r : Encoding) (k : ℕ) (es : List Expr) → Means s methods e r → r ≡ encoding.Call k es → Named s.text methods.names.now e k
named_by s methods e r k es bits h = absurd cc
named_by s methods e r k es (call {name = name} {arguments = arguments} c known calls) h =
    record { name = name; arguments = arguments; is = refl; at = own_at methods (word s.text name) k (known ∙ ap Some (called_own s methods c arguments r k es calls h)) }

record Given (s : Names) (methods : Methods) (o : Option TreeEncoding) (k : ℕ) : Type 0 where
  tree : TreeEncoding
  is : o ≡ Some tree
  named : Named s.text methods.names.now tree k

given_by : (s : Names) (methods : Methods) (o : Option TreeEncoding) (r : Encoding) (k : ℕ) (es : List Expr) → GivenMeans s methods o r → r ≡ encoding.Call k es → Given s methods o k
given_by s methods o r k es bare h = absurd cc
given_by s methods o r k es (means.encoded {e = e} is) h = record { tree = e; is = refl; named = named_by s methods e r k es is h }

-- the field that a mention stands for
field_means : (x : Setting) (s : Names) (methods : Methods) (g : Mention → Option Mention) (ms : List Mention) (es : List Encoding) (i : ℕ) (d : Field)
    → AllZip (FieldMeans s methods x.sections.now) (map g ms) es → slice_get (joined x ms es) i ≡ Some d → (m : Mention) × FieldMeans s methods x.sections.now (g m) d.encoding
field_means x s methods g [] es i d all at = let wrong : None ≡ Some d = at in absurd cc
field_means x s methods g (m ∷ ms) [] i d all at = absurd all
field_means x s methods g (m ∷ ms) (e ∷ es) zero d all at =
    let same : e ≡ d.encoding = ap (λ (f : Field). f.encoding) (some_is at) in
    (m, subst (FieldMeans s methods x.sections.now (g m)) same all.0)
field_means x s methods g (m ∷ ms) (e ∷ es) (suc i) d all at = field_means x s methods g ms es i d all.1 at

-- ---- the statement in the text

then_some : {X Y : Type 0} (f : X → Option Y) (o : Option X) (y : Y) → option_and_then f o ≡ Some y → (x : X) × (o ≡ Some x) × (f x ≡ Some y)
then_some f (Some x) y h = (x, refl, h)
then_some f None y h = let wrong : None ≡ Some y = h in absurd cc

site_of : (text : List ℕ) (names : List (List ℕ)) (item : Item) (e : TreeEncoding) (k : ℕ) → encoding_of item ≡ Some e → Named text names e k → (c : CallSite) × (call_of text names item ≡ Some c) × (c.method ≡ k)
site_of text names (items.Field name bracket) e k h n = let wrong : None ≡ Some e = h in absurd cc
site_of text names (items.Enforce at condition) e k h n = let wrong : None ≡ Some e = h in absurd cc
site_of text names (items.Bound b) e k h n =
    let same : b.encoding ≡ given.Call n.name n.arguments = some_is h ∙ n.is in
    (record { method = k; at = n.name }, ap (call_by text names) same ∙ ap (option_map (λ j. record { method = j; at = n.name })) n.at, refl)

site_in : (text : List ℕ) (names : List (List ℕ)) (s : Section) (place : ℕ) (item : Item) (c : CallSite) → is_initial_kind s.kind ≡ false → slice_get s.items place ≡ Some item → call_of text names item ≡ Some c → IsIn (calls_in text names s) c
site_in text names s place item c counted at is =
    subst (λ b. IsIn (cond b [] (filter_map (call_of text names) s.items)) c) (sym counted) (in_found (call_of text names) s.items place item c at is)

pub calls_of_text : (x : Setting) (m : TreeMethod) (number : ℕ) (section : Section) (f : Format) (i k : ℕ) (d : Field) (es : List Expr)
    → m.sections ≡ x.sections.now → slice_get x.sections.now number ≡ Some section → is_in groups.Formats section.kind ≡ true
    → IsFormat x number section f → slice_get f.fields i ≡ Some d → d.encoding ≡ encoding.Call k es
    → Has (callees_of x.text.now x.methods.now.names.now m) k
calls_of_text x m number section f i k d es same at is format field_at is_call =
    let text = x.text.now in
    let names = x.methods.now.names.now in
    let s = drafts.scope x number section in
    let choice = sections.encoding text (first_of text (drafts.base x)) (first_of text (encoded (drafts.own x number section))) (first_of text (drafts.default x)) in
    let field = field_means x s x.methods.now choice (drafts.fields x number section) format.encodings i d format.encoded (subst (λ fs. slice_get fs i ≡ Some d) format.fields_are field_at) in
    let stated = given_by s x.methods.now (means.given x.sections.now (choice field.0)) d.encoding k es field.1 is_call in
    let chosen = then_some (encoding_at x.sections.now) (choice field.0) stated.tree stated.is in
    let there = then_some (λ (t : Section). option_and_then encoding_of (slice_get t.items chosen.0.item)) (slice_get x.sections.now chosen.0.section) stated.tree chosen.2 in
    let item = then_some encoding_of (slice_get there.0.items chosen.0.item) stated.tree there.2 in
    let site = site_of text names item.0 stated.tree k item.2 stated.named in
    let counted = chosen_counted x number section field.0 chosen.0 at is chosen.1 there.0 there.1 in
    let call_in = site_in text names there.0 chosen.0.item item.0 site.0 counted item.1 site.1 in
    let all : IsIn (calls_from text names m) site.0 = subst (λ ss. IsIn (flat_map (calls_in text names) ss) site.0) (sym same) (in_spread (calls_in text names) x.sections.now chosen.0.section there.0 site.0 there.1 call_in) in
    has_site (calls_from text names m) site.0 k all site.2
