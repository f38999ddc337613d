-- What keeps the rules on parts has few of them.
use Rattle.std.proofs.Common.{◌≡◌, ◌&&◌, ◌||◌, ◌==◌, nat_le, cond, ℕ, zero, suc, ◌+◌, ◌-◌, ◌<◌, ◌≤◌, List, [], ◌∷◌, ◌++◌, length, Bool, true, false, refl, sym, ap, subst, ◌∙◌, append_assoc, arith, length-append}
use Rattle.std.specs.List.{AllByRecursion, count_by}
use Rattle.std.proofs.lemmas.Bool.{leb-false}
use Rattle.std.proofs.lemmas.List.{append-nil}
use Rattle.std.proofs.lemmas.List.Sums.{sum_by-append}
use Rattle.text_source.specs.declared.span.Span.{Span}
use Rattle.text_source.specs.declared.token.Token.{Token}
use Rattle.text_source.specs.Kinds.{same_mark}
use Rattle.text_tree.specs.declared.tree.Item.{Item}
use Rattle.text_tree.specs.declared.tree.SectionKind.{SectionKind}
use Rattle.text_tree.specs.declared.tree.SectionKind.TheVariants as kinds
use Rattle.text_tree.specs.declared.tree.Section.{Section}
use Rattle.text_tree.specs.declared.tree.Part.{Part}
use Rattle.text_tree.specs.declared.tree.Part.TheVariants as parts
use Rattle.text_tree.specs.declared.counts.SectionsSoFar.{SectionsSoFar}
use Rattle.text_tree.specs.declared.counts.Tally.{Tally}
use Rattle.text_tree.specs.Rules.{all, most_constants, most_methods, most_parameters, most_formats, most_statements}
use Rattle.text_tree.specs.Counts.{with_section, unseen, seen_from, seen_in, with_part, tally_from, tally_of}
use Rattle.text_tree.proofs.GrammarStrict as g
use Rattle.text_tree.specs.Grammar.{holds_bound}
use Rattle.text_tree.proofs.GrammarStrict.{Many, IsStatement, IsHead, IsSection, IsParameter, IsParameters, IsPart}
use Rattle.text_tree.specs.Limits.{is_format_kind, is_control_kind, is_initial_kind, is_default_kind, PartIsOnce, PartIsFew, is_constant, is_method}

-- ---- counts

pub count_one : {A : Type 0} (p : A → Bool) (xs : List A) (x : A) → count_by p (xs ++ x ∷ []) ≡ count_by p xs + cond (p x) 1 0
count_one p xs x = let both = sum_by-append (λ y. cond (p y) 1 0) xs (x ∷ []) in omega (arith, both)

pub count_first : {A : Type 0} (p : A → Bool) (x : A) (xs : List A) → count_by p (x ∷ xs) ≡ cond (p x) 1 0 + count_by p xs
count_first p x xs = let both = sum_by-append (λ y. cond (p y) 1 0) (x ∷ []) xs in omega (arith, both)

-- where each that counts has room, there are few
module _ {A : Type 0} {X : List A → List Token → List Token → A → Type 0} (p : A → Bool) (most : ℕ)
    (room : (found : List A) (from to : List Token) (x : A) → X found from to x → p x ≡ true → count_by p found < most) where
  one_more : (found : List A) (from to : List Token) (x : A) → X found from to x → count_by p found ≤ most → (b : Bool) → p x ≡ b → count_by p found + cond b 1 0 ≤ most
  one_more found from to x j h true is = let less = room found from to x j is in omega arith
  one_more found from to x j h false is = omega arith

  few : {found : List A} {from to : List Token} {xs : List A} → Many X found from to xs → count_by p found ≤ most → count_by p (found ++ xs) ≤ most
  few (g.ended {before = found}) h = subst (λ (ys : List A). count_by p ys ≤ most) (sym (append-nil found)) h
  few (g.more {before = found} {from = from} {mid = mid} {x = x} {xs = xs} j js) h =
      let next : count_by p (found ++ x ∷ []) ≤ most = subst (λ (n : ℕ). n ≤ most) (sym (count_one p found x)) (one_more found from mid x j h (p x) refl) in
      subst (λ (ys : List A). count_by p ys ≤ most) (append_assoc found (x ∷ []) xs) (few js next)

-- where each has room, the list is short
module _ {A : Type 0} {X : List A → List Token → List Token → A → Type 0} (most : ℕ) (room : (found : List A) (from to : List Token) (x : A) → X found from to x → length found < most) where
  pub short : {found : List A} {from to : List Token} {xs : List A} → Many X found from to xs → length found ≤ most → length (found ++ xs) ≤ most
  short (g.ended {before = found}) h = subst (λ (ys : List A). length ys ≤ most) (sym (append-nil found)) h
  short (g.more {before = found} {from = from} {mid = mid} {x = x} {xs = xs} j js) h =
      let less = room found from mid x j in
      let next : length (found ++ x ∷ []) ≤ most = omega (arith, length-append found (x ∷ [])) in
      subst (λ (ys : List A). length ys ≤ most) (append_assoc found (x ∷ []) xs) (short js next)

pub each : {A : Type 0} {X : List A → List Token → List Token → A → Type 0} (P : A → Type 0) (holds : (found : List A) (from to : List Token) (x : A) → X found from to x → P x)
    {found : List A} {from to : List Token} {xs : List A} → Many X found from to xs → AllByRecursion P xs
each P holds g.ended = tt
each P holds (g.more {before = found} {from = from} {mid = mid} {x = x} {xs = xs} j js) = (holds found from mid x j, each P holds js)

some_left : (n : ℕ) → (true && n == 0) ≡ false → 0 < n
some_left zero h = absurd cc
some_left (suc n) h = omega arith

-- ---- sections

pub kind_left : (kind : SectionKind) (seen : SectionsSoFar) → (with_section kind seen).formats_left ≡ seen.formats_left - cond (is_format_kind kind) 1 0
kind_left kinds.Uncompressed seen = omega arith
kind_left kinds.Control seen = omega arith
kind_left kinds.Initial seen = omega arith
kind_left kinds.Default seen = omega arith
kind_left (kinds.Compressed name) seen = refl

abbrev pub is_format : Section → Bool
is_format s = is_format_kind s.kind

pub formats_left : (seen : SectionsSoFar) (xs : List Section) → (seen_from seen xs).formats_left ≡ seen.formats_left - count_by is_format xs
formats_left seen [] = omega arith
formats_left seen (x ∷ xs) =
    let rest = formats_left (with_section x.kind seen) xs in
    let step = kind_left x.kind seen in
    let first = count_first is_format x xs in
    omega arith

format_room : (found : List Section) (from to : List Token) (x : Section) → IsSection all found from to x → is_format x ≡ true → count_by is_format found < most_formats
unfolding same_mark
format_room found from to _ (g.section once room g.uncompressed hs) h = absurd cc
format_room found from to _ (g.section once room g.control hs) h = absurd cc
format_room found from to _ (g.section once room g.initial hs) h = absurd cc
format_room found from to _ (g.section once room g.default hs) h = absurd cc
format_room found from to _ (g.section once room g.unnamed hs) h = let l = some_left (seen_in found).formats_left room in let c = formats_left unseen found in omega arith
format_room found from to _ (g.section once room g.named hs) h = let l = some_left (seen_in found).formats_left room in let c = formats_left unseen found in omega arith

-- a flag that a section of its kind sets, and no other clears
module _ (flag : SectionsSoFar → Bool) (sets : SectionKind → Bool) (law : (kind : SectionKind) (seen : SectionsSoFar) → flag (with_section kind seen) ≡ (sets kind || flag seen)) where
  flag_off : (kind : SectionKind) (seen : SectionsSoFar) (b : Bool) → sets kind ≡ b → flag (with_section kind seen) ≡ false → (◌≡◌ {A = ℕ} (cond b 1 0) 0) × (flag seen ≡ false)
  flag_off kind seen true is h = let on : (sets kind || flag seen) ≡ false = sym (law kind seen) ∙ h in let bad : true ≡ false = sym (ap (λ (b : Bool). b || flag seen) is) ∙ on in absurd cc
  flag_off kind seen false is h = (refl, sym (ap (λ (b : Bool). b || flag seen) is) ∙ sym (law kind seen) ∙ h)

  unset : (seen : SectionsSoFar) (xs : List Section) → flag (seen_from seen xs) ≡ false → (count_by (λ s. sets s.kind) xs ≡ 0) × (flag seen ≡ false)
  unset seen [] h = (refl, h)
  unset seen (x ∷ xs) h =
      let rest = unset (with_section x.kind seen) xs h in
      let here = flag_off x.kind seen (sets x.kind) refl rest.1 in
      let first = count_first (λ s. sets s.kind) x xs in
      let none : count_by (λ s. sets s.kind) (x ∷ xs) ≡ 0 = omega (arith, first, here.0, rest.0) in
      (none, here.1)

pub control_law : (kind : SectionKind) (seen : SectionsSoFar) → (with_section kind seen).control ≡ (is_control_kind kind || seen.control)
control_law kinds.Uncompressed seen = refl
control_law kinds.Control seen = refl
control_law kinds.Initial seen = refl
control_law kinds.Default seen = refl
control_law (kinds.Compressed name) seen = refl

pub initial_law : (kind : SectionKind) (seen : SectionsSoFar) → (with_section kind seen).initial ≡ (is_initial_kind kind || seen.initial)
initial_law kinds.Uncompressed seen = refl
initial_law kinds.Control seen = refl
initial_law kinds.Initial seen = refl
initial_law kinds.Default seen = refl
initial_law (kinds.Compressed name) seen = refl

pub default_law : (kind : SectionKind) (seen : SectionsSoFar) → (with_section kind seen).default ≡ (is_default_kind kind || seen.default)
default_law kinds.Uncompressed seen = refl
default_law kinds.Control seen = refl
default_law kinds.Initial seen = refl
default_law kinds.Default seen = refl
default_law (kinds.Compressed name) seen = refl

control_room : (found : List Section) (from to : List Token) (x : Section) → IsSection all found from to x → is_control_kind x.kind ≡ true → count_by (λ s. is_control_kind s.kind) found < 1
control_room found from to _ (g.section once room g.control hs) h = let c = unset (λ s. s.control) is_control_kind control_law unseen found once in omega (arith, c.0)
control_room found from to _ (g.section once room g.uncompressed hs) h = absurd cc
control_room found from to _ (g.section once room g.initial hs) h = absurd cc
control_room found from to _ (g.section once room g.default hs) h = absurd cc
control_room found from to _ (g.section once room g.unnamed hs) h = absurd cc
control_room found from to _ (g.section once room g.named hs) h = absurd cc

initial_room : (found : List Section) (from to : List Token) (x : Section) → IsSection all found from to x → is_initial_kind x.kind ≡ true → count_by (λ s. is_initial_kind s.kind) found < 1
initial_room found from to _ (g.section once room g.initial hs) h = let c = unset (λ s. s.initial) is_initial_kind initial_law unseen found once in omega (arith, c.0)
initial_room found from to _ (g.section once room g.uncompressed hs) h = absurd cc
initial_room found from to _ (g.section once room g.control hs) h = absurd cc
initial_room found from to _ (g.section once room g.default hs) h = absurd cc
initial_room found from to _ (g.section once room g.unnamed hs) h = absurd cc
initial_room found from to _ (g.section once room g.named hs) h = absurd cc

default_room : (found : List Section) (from to : List Token) (x : Section) → IsSection all found from to x → is_default_kind x.kind ≡ true → count_by (λ s. is_default_kind s.kind) found < 1
default_room found from to _ (g.section once room g.default hs) h = let c = unset (λ s. s.default) is_default_kind default_law unseen found once in omega (arith, c.0)
default_room found from to _ (g.section once room g.uncompressed hs) h = absurd cc
default_room found from to _ (g.section once room g.control hs) h = absurd cc
default_room found from to _ (g.section once room g.initial hs) h = absurd cc
default_room found from to _ (g.section once room g.unnamed hs) h = absurd cc
default_room found from to _ (g.section once room g.named hs) h = absurd cc

pub full_false : (most count : ℕ) → (true && nat_le most count) ≡ false → count < most
full_false most count h = leb-false most count h

statement_room : (only_bound : Bool) (found : List Item) (from to : List Token) (x : Item) → IsStatement all only_bound found from to x → length found < most_statements
statement_room _ found from to x (g.any_item room h) = full_false most_statements (length found) room
statement_room _ found from to _ (g.bound_item room h) = full_false most_statements (length found) room

section_short : (found : List Section) (from to : List Token) (x : Section) → IsSection all found from to x → length x.items ≤ most_statements
section_short found from to _ (g.section {kind = kind} once room h hs) = short most_statements (statement_room (holds_bound kind)) hs (omega arith)

-- ---- methods and parts

parameter_room : (found : List Span) (from to : List Token) (x : Span) → IsParameter all found from to x → length found < most_parameters
parameter_room found _ to x (g.parameter room) = full_false most_parameters (length found) room

parameters_short : {from to : List Token} {ps : List Span} → IsParameters all from to ps → length ps ≤ most_parameters
parameters_short g.no_parameters = omega arith
parameters_short g.empty_parameters = omega arith
parameters_short (g.some_parameters hs) = short most_parameters parameter_room hs (omega arith)

pub part_once : (found : List Part) (from to : List Token) (x : Part) → IsPart all found from to x → PartIsOnce x
part_once found _ to _ (g.constant room h) = tt
part_once found _ to _ (g.method room ps hs s) = record {
  control = few (λ s. is_control_kind s.kind) 1 control_room hs (omega arith);
  initial = few (λ s. is_initial_kind s.kind) 1 initial_room hs (omega arith);
  default = few (λ s. is_default_kind s.kind) 1 default_room hs (omega arith);
}

pub part_few : (found : List Part) (from to : List Token) (x : Part) → IsPart all found from to x → PartIsFew x
part_few found _ to _ (g.constant room h) = tt
part_few found _ to _ (g.method room ps hs s) = record {
  parameters = parameters_short ps;
  formats = few is_format most_formats format_room hs (omega arith);
  statements = each (λ s. length s.items ≤ most_statements) section_short hs;
}

part_left : (x : Part) (tally : Tally) → ((with_part x tally).constants_left ≡ tally.constants_left - cond (is_constant x) 1 0) × ((with_part x tally).methods_left ≡ tally.methods_left - cond (is_method x) 1 0)
part_left (parts.Constant x) tally = (refl, omega arith)
part_left (parts.Method x) tally = (omega arith, refl)

pub constants_left : (tally : Tally) (xs : List Part) → (tally_from tally xs).constants_left ≡ tally.constants_left - count_by is_constant xs
constants_left tally [] = omega arith
constants_left tally (x ∷ xs) =
    let rest = constants_left (with_part x tally) xs in
    let step = (part_left x tally).0 in
    let first = count_first is_constant x xs in
    omega arith

pub methods_left : (tally : Tally) (xs : List Part) → (tally_from tally xs).methods_left ≡ tally.methods_left - count_by is_method xs
methods_left tally [] = omega arith
methods_left tally (x ∷ xs) =
    let rest = methods_left (with_part x tally) xs in
    let step = (part_left x tally).1 in
    let first = count_first is_method x xs in
    omega arith

constant_room : (found : List Part) (from to : List Token) (x : Part) → IsPart all found from to x → is_constant x ≡ true → count_by is_constant found < most_constants
constant_room found _ to _ (g.constant room j) h = let l = some_left (tally_of found).constants_left room in let c = constants_left (tally_of []) found in omega arith
constant_room found _ to _ (g.method room ps hs s) h = absurd cc

method_room : (found : List Part) (from to : List Token) (x : Part) → IsPart all found from to x → is_method x ≡ true → count_by is_method found < most_methods
method_room found _ to _ (g.constant room j) h = absurd cc
method_room found _ to _ (g.method room ps hs s) h = let l = some_left (tally_of found).methods_left room in let c = methods_left (tally_of []) found in omega arith

pub few_constants : {from to : List Token} {xs : List Part} → Many (IsPart all) [] from to xs → count_by is_constant xs ≤ most_constants
few_constants hs = few is_constant most_constants constant_room hs (omega arith)

pub few_methods : {from to : List Token} {xs : List Part} → Many (IsPart all) [] from to xs → count_by is_method xs ≤ most_methods
few_methods hs = few is_method most_methods method_room hs (omega arith)
