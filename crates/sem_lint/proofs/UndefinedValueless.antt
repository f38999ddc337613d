-- An expression of which a part divides by 0, or has an exponent below 0, has no value.
use Rattle.std.proofs.Common.{◌≡◌, ◌∙◌, refl, sym, ap, ℕ, zero, suc, Bool, true, false, ◌&&◌, ◌||◌, not, List, [], ◌∷◌, ◌⊎◌, inl, inr, arith}
use Rattle.std.specs.Prelude.{ℤ, pos, negsuc, ◌<ℤ◌, Option, Some, None, Result, Ok, Err, slice_get, if◌then◌else◌}
use Rattle.std.specs.Ordering.{int_eq}
use Rattle.std.specs.Option.{option_map}
use Rattle.std.proofs.lemmas.Int.{ints}
use Rattle.std.proofs.lemmas.Bool.{and_parts}
use Rattle.std.proofs.lemmas.Bool.Decides.{Decides-int_eq}
use Rattle.text_source.specs.declared.span.Span.{Span}
use Rattle.sem_expr.specs.declared.expr.Cond.{Cond}
use Rattle.sem_expr.specs.declared.expr.Cond.TheVariants.{Constant, Compare, Not', And', Or'}
use Rattle.sem_expr.specs.declared.expr.Expr.{Expr}
use Rattle.sem_expr.specs.declared.expr.Expr.TheVariants as expr
use Rattle.sem_expr.specs.declared.expr.Expr.TheVariants.{Number, Parameter, Binary'}
use Rattle.sem_expr.specs.declared.expr.Operator.{Operator}
use Rattle.sem_expr.specs.declared.expr.Operator.TheVariants.{Add, Subtract, Multiply, Divide, Remainder, Power}
use Rattle.sem_expr.specs.declared.expr.Side.{Side}
use Rattle.sem_expr.specs.declared.expr.Subject.{Subject}
use Rattle.sem_expr.specs.declared.fault.RangeFault.{RangeFault}
use Rattle.sem_expr.specs.declared.interval.Interval.{Interval}
use Rattle.sem_expr.specs.Ranged.{Bounding, ranged}
use Rattle.sem_expr.specs.Rules.{IsIn}
use Rattle.sem_expr.specs.Spread.{LieIn}
use Rattle.sem_expr.specs.Values.{Assignment, apply, compare, val, truth}
use Rattle.sem_expr.proofs.RangedLie as ranges
use Rattle.sem_expr.proofs.RulesLimits.{lt_true}
use Rattle.sem_expr.proofs.RulesParts.{both_there}
use Rattle.sem_library.specs.Methods as lib
use Rattle.sem_profile.specs.declared.profile.Constraint.{Constraint}
use Rattle.sem_profile.specs.declared.profile.Constraint.TheVariants.{Bracket, Enforce}
use Rattle.sem_profile.specs.declared.profile.Library.{Library}
use Rattle.sem_profile.specs.declared.profile.Library.TheVariants as library
use Rattle.sem_profile.specs.BoundsLaws.{library_exprs}
use Rattle.sem_filling.specs.Fits.{method_of, vals}
use Rattle.sem_filling.proofs.FitsSized.{and_then_some, map_some, two_parts, crc_parts}
use Rattle.sem_lint.specs.Undefined.{lacking, gives_none, first_of, first_undefined, is_negative, is_zero, undefined, undefined_condition, undefined_truth}

either : (o q : Option Span) (at : Span) → first_of o q ≡ Some at → (o ≡ Some at) ⊎ (q ≡ Some at)
either (Some s) q at e = inl e
either None q at e = inr e

asked : (b : Bool) (s at : Span) → (if b then Some s else None) ≡ Some at → b ≡ true
asked true s at e = refl
asked false s at e = absurd (cc)

only_zero : (o : Result Interval RangeFault) → is_zero o ≡ true → (i : Interval) × (o ≡ Ok i) × (i.from ≡ pos 0) × (i.to ≡ pos 0)
only_zero (Ok i) e = let t = and_parts (int_eq i.from (pos 0)) (int_eq i.to (pos 0)) e in (i, refl, (Decides-int_eq i.from (pos 0)).0 t.0, (Decides-int_eq i.to (pos 0)).0 t.1)
only_zero (Err f) e = absurd (cc)

divided_by_zero : (x v : ℤ) → apply Divide x (pos 0) ≡ Some v → ⊥
divided_by_zero x v is = absurd (cc)

rest_by_zero : (x v : ℤ) → apply Remainder x (pos 0) ≡ Some v → ⊥
rest_by_zero x v is = absurd (cc)

only_below : (o : Result Interval RangeFault) → is_negative o ≡ true → (i : Interval) × (o ≡ Ok i) × (i.to <ℤ pos 0)
only_below (Ok i) e = (i, refl, lt_true i.to (pos 0) e)
only_below (Err f) e = absurd (cc)

no_power : (x m v : ℤ) → m <ℤ pos 0 → apply Power x m ≡ Some v → ⊥
no_power x (pos n) v lt is = absurd (omega (arith, ints))
no_power x (negsuc n) v lt is = absurd (cc)

between : (i : Interval) (v : ℤ) → i.from ≡ pos 0 → i.to ≡ pos 0 → IsIn i v → v ≡ pos 0
between i v from to lies = let above = lies.above in let below = lies.below in omega (arith, ints, from, to, above, below)

-- an operator whose right operand can be nothing but such a number
none_given : (op : Operator) (o : Result Interval RangeFault) → gives_none op o ≡ true → (x m v : ℤ) → ((i : Interval) → o ≡ Ok i → IsIn i m) → apply op x m ≡ Some v → ⊥
none_given Divide o e x m v lies is =
    let i = only_zero o e in let zero_is = between i.0 m i.2 i.3 (lies i.0 i.1) in divided_by_zero x v (ap (apply Divide x) (sym zero_is) ∙ is)
none_given Remainder o e x m v lies is =
    let i = only_zero o e in let zero_is = between i.0 m i.2 i.3 (lies i.0 i.1) in rest_by_zero x v (ap (apply Remainder x) (sym zero_is) ∙ is)
none_given Power o e x m v lies is =
    let i = only_below o e in let top = (lies i.0 i.1).below in let low = i.2 in no_power x m v (omega (arith, ints, top, low)) is
none_given Add o e x m v lies is = absurd (cc)
none_given Subtract o e x m v lies is = absurd (cc)
none_given Multiply o e x m v lies is = absurd (cc)

no_negation : (o : Option Bool) (b : Bool) → option_map not o ≡ Some b → (c : Bool) × (o ≡ Some c)
no_negation (Some c) b e = (c, refl)
no_negation None b e = absurd (cc)

pub of_four : (o p q d : Option Span) → first_of (first_of o p) (first_of q d) ≡ first_of o (first_of p (first_of q (first_of d None)))
of_four (Some s) p q d = refl
of_four None (Some s) q d = refl
of_four None None (Some s) d = refl
of_four None None None (Some s) = refl
of_four None None None None = refl

of_two : (o q : Option Span) (at : Span) → first_of o q ≡ Some at → (o ≡ Some at → ⊥) → (q ≡ Some at → ⊥) → ⊥
of_two (Some s) q at e one two = one e
of_two None q at e one two = two e

of_three : (o q d : Option Span) (at : Span) → first_of (first_of o q) d ≡ Some at → (o ≡ Some at → ⊥) → (q ≡ Some at → ⊥) → (d ≡ Some at → ⊥) → ⊥
of_three (Some s) q d at e one two three = one e
of_three None (Some s) d at e one two three = two e
of_three None None d at e one two three = three e

module _ (a : Assignment) (r : Bounding) (lie : LieIn a r) where
  none_lacking : (s : Span) (op : Operator) (y : Expr) (at : Span) → lacking s op (ranged r y) ≡ Some at → (n m v : ℤ) → val a y ≡ Some m → apply op n m ≡ Some v → ⊥
  none_lacking s op y at h n m v right whole = none_given op (ranged r y) (asked (gives_none op (ranged r y)) s at h) n m v (λ i is. ranges.lies a r lie y i m is right) whole

  pub no_value : (e : Expr) (at : Span) → undefined r e ≡ Some at → (v : ℤ) → val a e ≡ Some v → ⊥
  no_value (Number s n) at e v is = absurd (cc)
  no_value (Parameter s i) at e v is = absurd (cc)
  no_value (expr.Attribute s t) at e v is = absurd (cc)
  no_value (Binary' s op p x q y) at e v is =
      let w = both_there (apply op) (val a x) (val a y) v is in
      of_three (undefined r x) (undefined r y) (lacking s op (ranged r y)) at e (λ g. no_value x at g w.first w.first_is) (λ g. no_value y at g w.second w.second_is)
      (λ g. none_lacking s op y at g w.first w.second v w.second_is w.value_is)

  pub no_truth : (c : Cond) (at : Span) → undefined_truth r c ≡ Some at → (b : Bool) → truth a c ≡ Some b → ⊥
  no_truth (Constant s b) at e t is = absurd (cc)
  no_truth (Compare s op x y) at e b is =
      let w = both_there (λ v u. Some (compare op v u)) (val a x) (val a y) b is in
      of_two (undefined r x) (undefined r y) at e (λ g. no_value x at g w.first w.first_is) (λ g. no_value y at g w.second w.second_is)
  no_truth (Not' s p x) at e b is = let t = no_negation (truth a x) b is in no_truth x at e t.0 t.1
  no_truth (And' s p x q y) at e b is =
      let w = both_there (λ v u. Some (v && u)) (truth a x) (truth a y) b is in
      of_two (undefined_truth r x) (undefined_truth r y) at e (λ g. no_truth x at g w.first w.first_is) (λ g. no_truth y at g w.second w.second_is)
  no_truth (Or' s p x q y) at e b is =
      let w = both_there (λ v u. Some (v || u)) (truth a x) (truth a y) b is in
      of_two (undefined_truth r x) (undefined_truth r y) at e (λ g. no_truth x at g w.first w.first_is) (λ g. no_truth y at g w.second w.second_is)

-- ---- which of several

abbrev OneOf : Bounding → List Expr → Span → Type 0
OneOf r es at = (q : ℕ) × (e : Expr) × (slice_get es q ≡ Some e) × (undefined r e ≡ Some at)

first_or_later : (r : Bounding) (e : Expr) (es : List Expr) (at : Span) → (undefined r e ≡ Some at) ⊎ (first_undefined r es ≡ Some at) → (first_undefined r es ≡ Some at → OneOf r es at) → OneOf r (e ∷ es) at
first_or_later r e es at (inl h) later = (zero, e, refl, h)
first_or_later r e es at (inr h) later = let t = later h in (suc t.0, t.1, t.2, t.3)

pub one_undefined : (r : Bounding) (es : List Expr) (at : Span) → first_undefined r es ≡ Some at → (q : ℕ) × (e : Expr) × (slice_get es q ≡ Some e) × (undefined r e ≡ Some at)
one_undefined r [] at is = absurd (cc)
one_undefined r (e ∷ es) at is = first_or_later r e es at (either (undefined r e) (first_undefined r es) at is) (λ h. one_undefined r es at h)

abbrev OneCondition : Bounding → List Constraint → Span → Type 0
OneCondition r cs at = (j : ℕ) × (condition : Cond) × (place : Span) × (slice_get cs j ≡ Some (Enforce condition place)) × (undefined_truth r condition ≡ Some at)

condition_or_later : (r : Bounding) (c : Cond) (place : Span) (cs : List Constraint) (at : Span) → (undefined_truth r c ≡ Some at) ⊎ (undefined_condition r cs ≡ Some at) → (undefined_condition r cs ≡ Some at → OneCondition r cs at)
    → OneCondition r (Enforce c place ∷ cs) at
condition_or_later r c place cs at (inl h) later = (zero, c, place, refl, h)
condition_or_later r c place cs at (inr h) later = let t = later h in (suc t.0, t.1, t.2, t.3, t.4)

pub one_condition : (r : Bounding) (cs : List Constraint) (at : Span) → undefined_condition r cs ≡ Some at
    → (j : ℕ) × (condition : Cond) × (place : Span) × (slice_get cs j ≡ Some (Enforce condition place)) × (undefined_truth r condition ≡ Some at)
one_condition r [] at is = absurd (cc)
one_condition r (Bracket i side lengths place ∷ cs) at is = let t = one_condition r cs at is in (suc t.0, t.1, t.2, t.3, t.4)
one_condition r (Enforce c place ∷ cs) at is = condition_or_later r c place cs at (either (undefined_truth r c) (undefined_condition r cs) at is) (λ h. one_condition r cs at h)

-- ---- the arguments of what encodes a field have values

pub all_there : (a : Assignment) (es : List Expr) (vs : List ℤ) → vals a es ≡ Some vs → (q : ℕ) (e : Expr) → slice_get es q ≡ Some e → (v : ℤ) × (val a e ≡ Some v)
all_there a [] vs is q e at = absurd (cc)
all_there a (d ∷ es) vs is zero e at =
    let x = and_then_some (λ w. option_map (λ more. w ∷ more) (vals a es)) (val a d) vs is in
    let same : d ≡ e = cc in
    (x.0, ap (val a) (sym same) ∙ x.1)
all_there a (d ∷ es) vs is (suc q) e at =
    let x = and_then_some (λ w. option_map (λ more. w ∷ more) (vals a es)) (val a d) vs is in
    let rest = map_some (λ more. x.0 ∷ more) (vals a es) vs x.2 in
    all_there a es rest.0 rest.1 q e at

two_there : (a : Assignment) (d f : Expr) (x y : ℤ) → val a d ≡ Some x → val a f ≡ Some y → (q : ℕ) (e : Expr) → slice_get (d ∷ f ∷ []) q ≡ Some e → (v : ℤ) × (val a e ≡ Some v)
two_there a d f x y one other zero e at = let same : d ≡ e = cc in (x, ap (val a) (sym same) ∙ one)
two_there a d f x y one other (suc zero) e at = let same : f ≡ e = cc in (y, ap (val a) (sym same) ∙ other)
two_there a d f x y one other (suc (suc q)) e at = absurd (cc)

one_there : (a : Assignment) (d : Expr) (x : ℤ) → val a d ≡ Some x → (q : ℕ) (e : Expr) → slice_get (d ∷ []) q ≡ Some e → (v : ℤ) × (val a e ≡ Some v)
one_there a d x one zero e at = let same : d ≡ e = cc in (x, ap (val a) (sym same) ∙ one)
one_there a d x one (suc q) e at = absurd (cc)

pub has_values : (sides : Subject → Side → List Bool) (a : Assignment) (l : Library) (m : lib.Method) → method_of sides a l ≡ Some m → (q : ℕ) (e : Expr) → slice_get (library_exprs l) q ≡ Some e → (v : ℤ) × (val a e ≡ Some v)
has_values sides a (library.UncompressedValue len v) m is q e at = let x = two_parts lib.uncompressed_value (val a len) (val a v) m is in two_there a len v x.0 x.1 x.2 x.3 q e at
has_values sides a (library.CompressedValue len v) m is q e at = let x = two_parts lib.compressed_value (val a len) (val a v) m is in two_there a len v x.0 x.1 x.2 x.3 q e at
has_values sides a (library.Irregular len) m is q e at = let x = map_some lib.irregular (val a len) m is in one_there a len x.0 x.1 q e at
has_values sides a library.Static m is q e at = absurd (cc)
has_values sides a (library.Lsb k offset) m is q e at = let x = two_parts lib.lsb (val a k) (val a offset) m is in two_there a k offset x.0 x.1 x.2 x.3 q e at
has_values sides a (library.Crc crc) m is q e at =
    let es = crc.bits ∷ crc.polynomial ∷ crc.initial ∷ crc.length ∷ [] in
    let x = crc_parts (sides crc.subject crc.side) (vals a es) m is in
    all_there a es (x.0 ∷ x.1 ∷ x.2 ∷ x.3 ∷ []) x.4 q e at
