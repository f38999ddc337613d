-- The asked fields of a format are those that CONTROL asks for: alike in each format, and each a control field.
use Rattle.std.proofs.Common.{◌≡◌, ◌∙◌, ap, ℕ, suc, zero, ◌+◌, inl, inr, Bool, true, false, cond, List, [], ◌∷◌, ◌++◌, ◌||◌, drop, fold, get_or, length, map, refl, sym, subst, append-nil}
use Rattle.std.specs.Prelude.{ℤ, Option, Some, None, filter, is_some, slice_get, position}
use Rattle.std.specs.List.{list_any, cons_option}
use Rattle.std.specs.Option.{option_or}
use Rattle.std.specs.Str.{bytes_eq}
use Rattle.std.proofs.lemmas.List.{map-append}
use Rattle.std.proofs.lemmas.List.Elements.{filter-append}
use Rattle.std.proofs.lemmas.List.Folds.{find-append}
use Rattle.std.proofs.lemmas.List.Sums.{fold-append}
use Rattle.text_source.specs.declared.span.Span.{Span}
use Rattle.text_tree.specs.declared.tree.Bracket.{Bracket}
use Rattle.text_tree.specs.declared.tree.Expr.{Expr as Tree}
use Rattle.text_tree.specs.declared.tree.Item.{Item}
use Rattle.text_tree.specs.declared.tree.Item.TheVariants as items
use Rattle.text_tree.specs.declared.tree.Section.{Section}
use Rattle.text_tree.specs.declared.tree.SectionKind.{SectionKind}
use Rattle.text_tree.specs.declared.tree.SectionKind.TheVariants as kinds
use Rattle.sem_expr.specs.declared.expr.Expr.{Expr}
use Rattle.sem_profile.specs.declared.fault.ProfileFault.{ProfileFault}
use Rattle.sem_profile.specs.declared.profile.Encoding.{Encoding}
use Rattle.sem_profile.specs.declared.profile.Encoding.TheVariants as encoding
use Rattle.sem_profile.specs.declared.profile.Field.{Field}
use Rattle.sem_profile.specs.declared.profile.Format.{Format}
use Rattle.sem_profile.specs.declared.profile.Part.TheVariants as parts
use Rattle.sem_profile.specs.Words.{word}
use Rattle.text_statements.specs.Constants.{IsValue}
use Rattle.text_statements.specs.Names.{Names, names, plain}
use Rattle.text_sections.specs.declared.mention.Mention.{Mention}
use Rattle.text_sections.specs.declared.mention.Group.{Group}
use Rattle.text_sections.specs.declared.mention.Group.TheVariants as groups
use Rattle.text_sections.specs.Fields.{in_field_order}
use Rattle.text_sections.specs.Mentions.{is_in, mention_of, mentions_from, mentions_of, mentions_in, first_of, firsts, names_of}
use Rattle.text_sections.specs.Names.{FieldCause, second_in_base}
use Rattle.text_statements.specs.Asked.{is_control, control_part, control_items, only_length, IsAsked, is_asked, AreAsked, no_items, asks, asks_none}
use Rattle.text_methods.specs.declared.drafts.Setting.{Setting}
use Rattle.text_methods.specs.Drafts.{own, fields}
use Rattle.text_methods.specs.Fields.{part_of, part, is_one_of, field, joined}
use Rattle.text_methods.specs.Formats.{IsFormat}
use Rattle.sem_profile.specs.Asked.{asked_names}
use Rattle.sem_profile.specs.Asked as asking
use Rattle.sem_graph.proofs.OrderPushing.{some_is, get_pushed, get_kept, get_last}
use Rattle.text_resolve.proofs.MethodsChosen.{at_position}
use Rattle.text_resolve.proofs.MethodsMentioned.{step, get_split, get_left, get_right, found, some_of, each_once, first_at, firsts_find}
use Rattle.text_resolve.proofs.MethodsStanding.{stands, part_is, there_or, either, own_name, same_word, or_left, or_right}

-- ---- the statement that asks for a name

record IsStated (s : Names) (item : Item) (span : Span) : Type 0 where
  bracket : Option Bracket
  is : item ≡ items.Field span bracket
  part : Tree
  only : only_length bracket ≡ Some part
  value : ℤ
  value_is : IsValue s part value

stated : (s : Names) (set : List (List ℕ)) (item : Item) (span : Span) → IsAsked s set item span → IsStated s item span
stated s set item span (is_asked {bracket = b} part v only is free) = record { bracket = b; is = refl; part = part; only = only; value = v; value_is = is }

pub record AskedBy (s : Names) (statements : List Item) (name : List ℕ) : Type 0 where
  pub place : ℕ
  pub span : Span
  pub bracket : Option Bracket
  pub at : slice_get statements place ≡ Some (items.Field span bracket)
  pub named : word s.text span ≡ name
  pub part : Tree
  pub only : only_length bracket ≡ Some part
  pub value : ℤ
  pub value_is : IsValue s part value

later : (s : Names) (statements : List Item) (item : Item) (name : List ℕ) → AskedBy s statements name → AskedBy s (statements ++ item ∷ []) name
later s statements item name a = record {
  place = a.place;
  span = a.span;
  bracket = a.bracket;
  at = get_kept statements item a.place (items.Field a.span a.bracket) a.at;
  named = a.named;
  part = a.part;
  only = a.only;
  value = a.value;
  value_is = a.value_is;
}

last : (s : Names) (statements : List Item) (item : Item) (span : Span) (name : List ℕ) → IsStated s item span → word s.text span ≡ name → AskedBy s (statements ++ item ∷ []) name
last s statements item span name is named = record {
  place = length statements;
  span = span;
  bracket = is.bracket;
  at = get_last statements item ∙ ap Some is.is;
  named = named;
  part = is.part;
  only = is.only;
  value = is.value;
  value_is = is.value_is;
}

asked_by : (s : Names) (set : List (List ℕ)) (statements : List Item) (asked : List (List ℕ)) → AreAsked s set statements asked → (k : ℕ) (name : List ℕ) → slice_get asked k ≡ Some name
    → AskedBy s statements name
asked_by s set statements asked no_items k name at = let wrong : None ≡ Some name = at in absurd cc
asked_by s set statements asked (asks {statements = before} {names = ns} item span are is) k name at =
    by (list_any (bytes_eq (word s.text span)) ns) at (λ here. asked_by s set before ns are k name here)
  where
    by : (b : Bool) → slice_get (cond b ns (ns ++ word s.text span ∷ [])) k ≡ Some name → (slice_get ns k ≡ Some name → AskedBy s before name) → AskedBy s (before ++ item ∷ []) name
    by true here more = later s before item name (more here)
    by false here more = elim (get_pushed ns (word s.text span) k name here) as (λ _. AskedBy s (before ++ item ∷ []) name) [
      | inl old ↦ later s before item name (more old)
      | inr new ↦ last s before item span name (stated s set item span is) new.1
    ]
asked_by s set statements asked (asks_none {statements = before} {names = ns} item are not_asked) k name at = later s before item name (asked_by s set before ns are k name at)

-- what a plain name stands for in the setting
abbrev pub look : Setting → Span → Option Expr
look x at = plain (names x.text.now x.constants.now x.values.now x.parameters.now []) at

-- nothing is wrong with the names of the setting's method, and CONTROL asks for these fields
pub record IsAsking (x : Setting) : Type 0 where
  pub judged : (f : ProfileFault) → FieldCause x.text.now x.sections.now f → ⊥
  pub scope : Names
  pub set : List (List ℕ)
  pub text : scope.text ≡ x.text.now
  pub plain_is : (at : Span) → plain scope at ≡ look x at
  pub asked : AreAsked scope set (control_items x.sections.now) x.asked.now

pub asked_there : (x : Setting) (a : IsAsking x) (name : List ℕ) → is_one_of x.asked.now name ≡ true → AskedBy a.scope (control_items x.sections.now) name
asked_there x a name is = by (position (bytes_eq name) x.asked.now) refl is
  where
    by : (o : Option ℕ) → position (bytes_eq name) x.asked.now ≡ o → is_some o ≡ true → AskedBy a.scope (control_items x.sections.now) name
    by (Some k) e there = asked_by a.scope a.set (control_items x.sections.now) x.asked.now a.asked k name (at_position name x.asked.now k e)
    by None e there = absurd cc

-- ---- CONTROL mentions it, and UNCOMPRESSED does not

pub kind_is : (kind : SectionKind) → is_in groups.Control kind ≡ is_control kind
kind_is kinds.Uncompressed = refl
kind_is kinds.Control = refl
kind_is kinds.Initial = refl
kind_is kinds.Default = refl
kind_is (kinds.Compressed name) = refl

past : (text : List ℕ) (section first : ℕ) (x : Item) (rest : List Mention) (name : List ℕ) → is_some (first_of text rest name) ≡ true
    → is_some (first_of text (cons_option (mention_of text section first x) rest) name) ≡ true
past text section first (items.Field n b) rest name there = either _ _ (first_of text rest name) there
past text section first (items.Bound b) rest name there = either _ _ (first_of text rest name) there
past text section first (items.Enforce at condition) rest name there = there

field_there : (text : List ℕ) (section first : ℕ) (xs : List Item) (k : ℕ) (span : Span) (bracket : Option Bracket) → slice_get xs k ≡ Some (items.Field span bracket)
    → is_some (first_of text (mentions_from text section first xs) (word text span)) ≡ true
field_there text section first [] k span bracket at = let wrong : None ≡ Some (items.Field span bracket) = at in absurd cc
field_there text section first (x ∷ xs) zero span bracket at =
    subst (λ z. is_some (first_of text (cons_option (mention_of text section first z) (mentions_from text section (first + 1) xs)) (word text span)) ≡ true) (sym (some_is at))
    (own_name _ _ (first_of text (mentions_from text section (first + 1) xs) (word text span)) (same_word (word text span) (word text span) refl))
field_there text section first (x ∷ xs) (suc k) span bracket at =
    past text section first x (mentions_from text section (first + 1) xs) (word text span) (field_there text section (first + 1) xs k span bracket at)

in_part : (text : List ℕ) (first : ℕ) (s : Section) (a b : Bool) → a ≡ b → (k : ℕ) (span : Span) (bracket : Option Bracket) → slice_get (cond b s.items []) k ≡ Some (items.Field span bracket)
    → is_some (first_of text (cond a (mentions_of text first s.items) []) (word text span)) ≡ true
in_part text first s true true e k span bracket at = field_there text first 0 s.items k span bracket at
in_part text first s a false e k span bracket at = let wrong : None ≡ Some (items.Field span bracket) = at in absurd cc
in_part text first s false true e k span bracket at = absurd cc

control_there : (text : List ℕ) (first : ℕ) (sections : List Section) (k : ℕ) (span : Span) (bracket : Option Bracket) → slice_get (control_items sections) k ≡ Some (items.Field span bracket)
    → is_some (first_of text (mentions_in text groups.Control first sections) (word text span)) ≡ true
control_there text first [] k span bracket at = let wrong : None ≡ Some (items.Field span bracket) = at in absurd cc
control_there text first (s ∷ ss) k span bracket at =
    let name = word text span in
    let here = cond (is_in groups.Control s.kind) (mentions_of text first s.items) [] in
    let more = mentions_in text groups.Control (first + 1) ss in
    there_or text here more name
    ∙ elim (get_split (control_part s) (control_items ss) k (items.Field span bracket) at) as (λ _. is_some (first_of text here name) || is_some (first_of text more name) ≡ true) [
      | inl of_s ↦ or_left (is_some (first_of text here name)) (is_some (first_of text more name)) (in_part text first s (is_in groups.Control s.kind) (is_control s.kind) (kind_is s.kind) k span bracket of_s)
      | inr of_ss ↦ or_right (is_some (first_of text here name)) (is_some (first_of text more name)) (control_there text (first + 1) ss of_ss.0 span bracket of_ss.1)
    ]

control_named : (x : Setting) (a : IsAsking x) (name : List ℕ) → is_one_of x.asked.now name ≡ true → is_some (first_of x.text.now (mentions_in x.text.now groups.Control 0 x.sections.now) name) ≡ true
control_named x a name is =
    let asks_it = asked_there x a name is in
    let named : word x.text.now asks_it.span ≡ name = subst (λ t. word t asks_it.span ≡ name) a.text asks_it.named in
    subst (λ n. is_some (first_of x.text.now (mentions_in x.text.now groups.Control 0 x.sections.now) n) ≡ true) named (control_there x.text.now 0 x.sections.now asks_it.place asks_it.span asks_it.bracket asks_it.at)

wider : (text : List ℕ) (group : Group) → ((kind : SectionKind) → is_in group kind ≡ true → is_in groups.Base kind ≡ true) → (first : ℕ) (sections : List Section) (k : ℕ) (m : Mention)
    → slice_get (mentions_in text group first sections) k ≡ Some m → (j : ℕ) × (slice_get (mentions_in text groups.Base first sections) j ≡ Some m)
wider text group into first [] k m at = let wrong : None ≡ Some m = at in absurd cc
wider text group into first (s ∷ ss) k m at =
    let base = cond (is_in groups.Base s.kind) (mentions_of text first s.items) [] in
    let more = mentions_in text groups.Base (first + 1) ss in
    elim (get_split (cond (is_in group s.kind) (mentions_of text first s.items) []) (mentions_in text group (first + 1) ss) k m at) as (λ _. (j : ℕ) × (slice_get (base ++ more) j ≡ Some m)) [
      | inl here ↦ (k, get_left base more k m (by (is_in group s.kind) refl here))
      | inr there ↦ let rest = wider text group into (first + 1) ss there.0 m there.1 in get_right base more rest.0 m rest.1
    ]
  where
    by : (b : Bool) → is_in group s.kind ≡ b → slice_get (cond b (mentions_of text first s.items) []) k ≡ Some m → slice_get (cond (is_in groups.Base s.kind) (mentions_of text first s.items) []) k ≡ Some m
    by true e here = subst (λ b. slice_get (cond b (mentions_of text first s.items) []) k ≡ Some m) (sym (into s.kind e)) here
    by false e here = let wrong : None ≡ Some m = here in absurd cc

header_base : (kind : SectionKind) → is_in groups.Header kind ≡ true → is_in groups.Base kind ≡ true
header_base kinds.Uncompressed e = refl
header_base kinds.Control e = absurd cc
header_base kinds.Initial e = absurd cc
header_base kinds.Default e = absurd cc
header_base (kinds.Compressed name) e = absurd cc

control_base : (kind : SectionKind) → is_in groups.Control kind ≡ true → is_in groups.Base kind ≡ true
control_base kinds.Uncompressed e = absurd cc
control_base kinds.Control e = refl
control_base kinds.Initial e = absurd cc
control_base kinds.Default e = absurd cc
control_base (kinds.Compressed name) e = absurd cc

header_part : (kind : SectionKind) → is_in groups.Header kind ≡ true → part_of kind ≡ parts.Header
header_part kinds.Uncompressed e = refl
header_part kinds.Control e = absurd cc
header_part kinds.Initial e = absurd cc
header_part kinds.Default e = absurd cc
header_part (kinds.Compressed name) e = absurd cc

control_is_part : (kind : SectionKind) → is_in groups.Control kind ≡ true → part_of kind ≡ parts.Control
control_is_part kinds.Uncompressed e = absurd cc
control_is_part kinds.Control e = refl
control_is_part kinds.Initial e = absurd cc
control_is_part kinds.Default e = absurd cc
control_is_part (kinds.Compressed name) e = absurd cc

in_header : (text : List ℕ) (sections : List Section) (name : List ℕ) (h : Mention) → first_of text (mentions_in text groups.Header 0 sections) name ≡ Some h → part sections h ≡ parts.Header
in_header text sections name h e =
    let f = found text (mentions_in text groups.Header 0 sections) name h e in
    let s = stands text groups.Header 0 sections f.place h f.at in
    part_is groups.Header sections h s ∙ header_part s.section.kind s.kind

in_control : (text : List ℕ) (sections : List Section) (name : List ℕ) (c : Mention) → first_of text (mentions_in text groups.Control 0 sections) name ≡ Some c → part sections c ≡ parts.Control
in_control text sections name c e =
    let f = found text (mentions_in text groups.Control 0 sections) name c e in
    let s = stands text groups.Control 0 sections f.place c f.at in
    part_is groups.Control sections c s ∙ control_is_part s.section.kind s.kind

-- no name stands in both
in_both : (x : Setting) → IsAsking x → (name : List ℕ) (h c : Mention) → first_of x.text.now (mentions_in x.text.now groups.Header 0 x.sections.now) name ≡ Some h
    → first_of x.text.now (mentions_in x.text.now groups.Control 0 x.sections.now) name ≡ Some c → ⊥
in_both x a name h c of_h of_c =
    let text = x.text.now in
    let sections = x.sections.now in
    let base = mentions_in text groups.Base 0 sections in
    let f = found text (mentions_in text groups.Header 0 sections) name h of_h in
    let g = found text (mentions_in text groups.Control 0 sections) name c of_c in
    let one_place = wider text groups.Header header_base 0 sections f.place h f.at in
    let other = wider text groups.Control control_base 0 sections g.place c g.at in
    let same = each_once text base (λ fault second. a.judged fault (second_in_base second)) one_place.0 other.0 h c one_place.1 other.1 (sym f.named ∙ g.named) in
    let single : h ≡ c = some_is (sym one_place.1 ∙ (ap (slice_get base) same ∙ other.1)) in
    let wrong : parts.Header ≡ parts.Control = sym (in_header text sections name h of_h) ∙ (ap (part sections) single ∙ in_control text sections name c of_c) in
    absurd cc

-- the first of a name that CONTROL has and UNCOMPRESSED does not
first_of_control : (text : List ℕ) (sections : List Section) (more : List Mention) (name : List ℕ) (m c : Mention) (o : Option Mention) → first_of text (mentions_in text groups.Header 0 sections) name ≡ o
    → ((h : Mention) → o ≡ Some h → ⊥) → first_of text (mentions_in text groups.Control 0 sections) name ≡ Some c
    → first_of text ((mentions_in text groups.Header 0 sections ++ mentions_in text groups.Control 0 sections) ++ more) name ≡ Some m → m ≡ c
first_of_control text sections more name m c (Some h) of_h none of_c of_m = absurd (none h refl)
first_of_control text sections more name m c None of_h none of_c of_m =
    let header = mentions_in text groups.Header 0 sections in
    let control = mentions_in text groups.Control 0 sections in
    let split = find-append (λ (t : Mention). bytes_eq name (word text t.name)) (header ++ control) more
    ∙ ap (λ o. option_or o (first_of text more name)) (find-append (λ (t : Mention). bytes_eq name (word text t.name)) header control) in
    let known : option_or (option_or (first_of text header name) (first_of text control name)) (first_of text more name) ≡ Some c = λ i. option_or (option_or (of_h i) (of_c i)) (first_of text more name) in
    some_is (sym of_m ∙ (split ∙ known))

-- an asked field is a control field
pub asked_is_control : (x : Setting) (number : ℕ) (section : Section) (i : ℕ) (m : Mention) → IsAsking x → slice_get (fields x number section) i ≡ Some m
    → is_one_of x.asked.now (word x.text.now m.name) ≡ true → part x.sections.now m ≡ parts.Control
asked_is_control x number section i m a at is =
    let text = x.text.now in
    let sections = x.sections.now in
    let name = word text m.name in
    let known = some_of (first_of text (mentions_in text groups.Control 0 sections) name) (control_named x a name is) in
    let same = first_of_control text sections (own x number section) name m known.0 (first_of text (mentions_in text groups.Header 0 sections) name) refl
    (λ h of_h. in_both x a name h known.0 of_h known.1) known.1 (first_at text (in_field_order text sections (own x number section)) i m at) in
    ap (part sections) same ∙ in_control text sections name known.0 known.1

-- ---- the names that a format asks for

named_asked : (x : Setting) (ms : List Mention) (es : List Encoding)
    → map (λ (d : Field). d.declared.name) (filter asking.is_asked (joined x ms es)) ≡ filter (is_one_of x.asked.now) (names_of x.text.now ms)
named_asked x [] es = refl
named_asked x (m ∷ ms) es = by (is_one_of x.asked.now (word x.text.now m.name)) (named_asked x ms (drop 1 es))
  where
    rest : List Field
    rest = filter asking.is_asked (joined x ms (drop 1 es))

    others : List (List ℕ)
    others = filter (is_one_of x.asked.now) (names_of x.text.now ms)

    by : (b : Bool) → map (λ (d : Field). d.declared.name) rest ≡ others
        → map (λ (d : Field). d.declared.name) (cond b (field x m (get_or es 0 encoding.Bare) ∷ rest) rest) ≡ cond b (word x.text.now m.name ∷ others) others
    by true more = ap (λ ns. word x.text.now m.name ∷ ns) more
    by false more = more

-- what is asked has a mention among these
abbrev Covers : List ℕ → (List ℕ → Bool) → List Mention → Type 0
Covers text test kept = (name : List ℕ) → is_some (first_of text kept name) ≡ false → test name ≡ false

covers_more : (text : List ℕ) (test : List ℕ → Bool) (kept : List Mention) (m : Mention) → Covers text test kept → Covers text test (kept ++ m ∷ [])
covers_more text test kept m covers name none = covers name (by (first_of text kept name) refl)
  where
    by : (o : Option Mention) → first_of text kept name ≡ o → is_some o ≡ false
    by None e = refl
    by (Some t) e =
        let there : is_some (first_of text (kept ++ m ∷ []) name) ≡ true =
        ap is_some (find-append (λ (t : Mention). bytes_eq name (word text t.name)) kept (m ∷ []) ∙ ap (λ o. option_or o (first_of text (m ∷ []) name)) e) in
        let wrong : true ≡ false = sym there ∙ none in
        absurd cc

one_not_asked : (text : List ℕ) (test : List ℕ → Bool) (kept : List Mention) (m : Mention) → test (word text m.name) ≡ false
    → filter test (names_of text (kept ++ m ∷ [])) ≡ filter test (names_of text kept)
one_not_asked text test kept m e =
    ap (filter test) (map-append (λ (t : Mention). word text t.name) kept (m ∷ []))
    ∙ (filter-append test (names_of text kept) (word text m.name ∷ [])
    ∙ ((λ i. filter test (names_of text kept) ++ cond (e i) (word text m.name ∷ []) []) ∙ append-nil (filter test (names_of text kept))))

-- the mentions after those give no asked name
no_more_asked : (text : List ℕ) (test : List ℕ → Bool) (kept ms : List Mention) → Covers text test kept → filter test (names_of text (fold (step text) kept ms)) ≡ filter test (names_of text kept)
no_more_asked text test kept [] covers = refl
no_more_asked text test kept (m ∷ ms) covers = by (is_some (first_of text kept (word text m.name))) refl (λ more covers. no_more_asked text test more ms covers)
  where
    by : (b : Bool) → is_some (first_of text kept (word text m.name)) ≡ b
        → ((more : List Mention) → Covers text test more → filter test (names_of text (fold (step text) more ms)) ≡ filter test (names_of text more))
        → filter test (names_of text (fold (step text) (cond b kept (kept ++ m ∷ [])) ms)) ≡ filter test (names_of text kept)
    by true e rest = rest kept covers
    by false e rest = rest (kept ++ m ∷ []) (covers_more text test kept m covers) ∙ one_not_asked text test kept m (covers (word text m.name) e)

base_there : (x : Setting) → IsAsking x → (name : List ℕ) → is_one_of x.asked.now name ≡ true
    → is_some (first_of x.text.now (firsts x.text.now (mentions_in x.text.now groups.Header 0 x.sections.now ++ mentions_in x.text.now groups.Control 0 x.sections.now)) name) ≡ true
base_there x a name is =
    let text = x.text.now in
    let header = mentions_in text groups.Header 0 x.sections.now in
    let control = mentions_in text groups.Control 0 x.sections.now in
    ap is_some (firsts_find text (header ++ control) name)
    ∙ (there_or text header control name ∙ or_right (is_some (first_of text header name)) (is_some (first_of text control name)) (control_named x a name is))

unless_there : (a b : Bool) → (a ≡ true → b ≡ true) → b ≡ false → a ≡ false
unless_there true b there none = sym (there refl) ∙ none
unless_there false b there none = refl

base_covers : (x : Setting) → IsAsking x
    → Covers x.text.now (is_one_of x.asked.now) (firsts x.text.now (mentions_in x.text.now groups.Header 0 x.sections.now ++ mentions_in x.text.now groups.Control 0 x.sections.now))
base_covers x a name none = unless_there (is_one_of x.asked.now name) _ (base_there x a name) none

-- the names that each format asks for
abbrev pub names_asked : Setting → List (List ℕ)
names_asked x =
    filter (is_one_of x.asked.now) (names_of x.text.now (firsts x.text.now (mentions_in x.text.now groups.Header 0 x.sections.now ++ mentions_in x.text.now groups.Control 0 x.sections.now)))

pub asked_names_are : (x : Setting) (number : ℕ) (section : Section) (f : Format) → IsAsking x → IsFormat x number section f → asked_names f ≡ names_asked x
asked_names_are x number section f a form =
    let text = x.text.now in
    let before = mentions_in text groups.Header 0 x.sections.now ++ mentions_in text groups.Control 0 x.sections.now in
    ap (λ ds. map (λ (d : Field). d.declared.name) (filter asking.is_asked ds)) form.fields_are
    ∙ (named_asked x (fields x number section) form.encodings
    ∙ (ap (λ ms. filter (is_one_of x.asked.now) (names_of text ms)) (fold-append (step text) [] before (own x number section))
    ∙ no_more_asked text (is_one_of x.asked.now) (firsts text before) (own x number section) (base_covers x a)))
