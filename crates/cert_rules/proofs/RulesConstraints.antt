-- What a constraint that holds says of an attribute or a length.
use Rattle.std.specs.Ordering.{int_eq}
use Rattle.std.specs.Prelude.{not}
use Rattle.std.proofs.lemmas.Bool.Decides.{Decides-int_eq}
use Rattle.std.proofs.Common.{◌≡◌, refl, sym, ◌∙◌, ap, subst, ℕ, zero, suc, Bool, true, false, List, [], ◌∷◌, length, arith}
use Rattle.std.proofs.Common.{◌≤◌, ◌<◌, ◌^◌}
use Rattle.std.specs.Prelude.{Option, Some, None, ℤ, pos, ◌+ℤ◌, ◌≤ℤ◌, ◌<ℤ◌, ◌&&◌, nat_eq, slice_get, option_and_then}
use Rattle.std.proofs.lemmas.Int.{ints}
use Rattle.std.proofs.Math.Nat.{pow-le-pow_right}
use Rattle.sem_bits.specs.Number.{num}
use Rattle.sem_bits.proofs.Numbers.{num-below}
use Rattle.sem_expr.proofs.RulesLimits.{le_true}
use Rattle.std.proofs.lemmas.Bool.{eqb-true}
use Rattle.sem_expr.specs.Values.{Assignment, remainder, apply, val, both, compare}
use Rattle.sem_expr.specs.declared.expr.Attribute.{Attribute}
use Rattle.sem_expr.specs.declared.expr.Subject.{Subject}
use Rattle.sem_expr.specs.declared.expr.Subject.TheVariants as subject
use Rattle.sem_expr.specs.declared.expr.Side.{Side}
use Rattle.sem_expr.specs.declared.expr.Side.TheVariants.{Uncompressed}
use Rattle.sem_expr.specs.declared.expr.Measure.{Measure}
use Rattle.sem_expr.specs.declared.expr.Measure.TheVariants as measure
use Rattle.sem_expr.specs.declared.expr.Operator.{Operator}
use Rattle.sem_expr.specs.declared.expr.Operator.TheVariants.{Add, Subtract, Multiply, Divide, Remainder, Power}
use Rattle.sem_expr.specs.declared.expr.Comparison.{Comparison}
use Rattle.sem_expr.specs.declared.expr.Comparison.TheVariants.{Equal}
use Rattle.sem_expr.specs.declared.expr.Expr.{Expr}
use Rattle.sem_expr.specs.declared.expr.Expr.TheVariants as expr
use Rattle.sem_expr.specs.declared.expr.Expr.TheVariants.{Number, Parameter, Binary'}
use Rattle.sem_expr.specs.declared.expr.Cond.TheVariants.{Compare}
use Rattle.sem_profile.specs.declared.profile.Sizes.{Sizes}
use Rattle.sem_profile.specs.declared.profile.FormatSizes.{FormatSizes}
use Rattle.sem_profile.specs.declared.profile.Constraint.{Constraint}
use Rattle.sem_profile.specs.declared.profile.Constraint.TheVariants.{Bracket, Enforce}
use Rattle.sem_profile.specs.Constants.{constant}
use Rattle.sem_filling.specs.Fits.{Holds}
use Rattle.sem_filling.proofs.Bounding.{constant_value}
use Rattle.sem_filling.proofs.FitsSized.{and_then_some}
use Rattle.cert_rules.specs.Facts.{same_side}
use Rattle.cert_rules.specs.Rules.{when, first_or, same_subject, same_measure, same_attribute, is_attribute, equated, Congruence, addend, added, congruence, reduction, reduced, congruent, is_reached, remainder_given, sole, bracketed, length_given, attribute_of}
use Rattle.cert_rules.proofs.ViewsAgree.{side_same, and_true, when_some}
use Rattle.cert_rules.proofs.RulesRemainders.{IsLeft, left_over}

pub same_numbers : (x y : ℤ) → int_eq x y ≡ true → x ≡ y
same_numbers x y e = (Decides-int_eq x y).0 e

pub number_self : (x : ℤ) → int_eq x x ≡ true
number_self x = (Decides-int_eq x x).1 refl

pub other_numbers : (x y : ℤ) → not (int_eq x y) ≡ true → x ≡ y → ⊥
other_numbers x y e same = let t = (Decides-int_eq x y).1 same in let u : not true ≡ true = ap not (sym t) ∙ e in absurd (cc)

subject_is : (s t : Subject) → same_subject s t ≡ true → s ≡ t
subject_is (subject.Field i) (subject.Field j) e = ap subject.Field (eqb-true i j e)
subject_is subject.This subject.This e = refl
subject_is _ _ e = absurd (cc)

measure_is : (s t : Measure) → same_measure s t ≡ true → s ≡ t
measure_is measure.Value measure.Value e = refl
measure_is measure.Length measure.Length e = refl
measure_is _ _ e = absurd (cc)

attribute_is : (s t : Attribute) → same_attribute s t ≡ true → s ≡ t
attribute_is s t e =
    let a = and_true (same_subject s.subject t.subject) (same_side s.side t.side && same_measure s.measure t.measure) e in
    let b = and_true (same_side s.side t.side) (same_measure s.measure t.measure) a.1 in
    λ i. record { subject = subject_is s.subject t.subject a.0 i; side = side_same s.side t.side b.0 i; measure = measure_is s.measure t.measure b.1 i }

pub attribute_value : (a : Assignment) (t : Attribute) (e : Expr) → is_attribute t e ≡ true → val a e ≡ a.attribute t
attribute_value a t (expr.Attribute s u) h = ap (λ z. a.attribute z) (attribute_is u t h)
attribute_value a t (Number s n) h = absurd (cc)
attribute_value a t (Parameter s n) h = absurd (cc)
attribute_value a t (Binary' s op p x q y) h = absurd (cc)

-- the two parts of a comparison that holds
pub compared : (op : Comparison) (o o' : Option ℤ) → both (λ v w. Some (compare op v w)) o o' ≡ Some true → (v : ℤ) × (w : ℤ) × (o ≡ Some v) × (o' ≡ Some w) × (compare op v w ≡ true)
compared op (Some v) (Some w) e = (v, w, refl, refl, cc)
compared op None _ e = absurd (cc)
compared op (Some v) None e = absurd (cc)

pub first_cases : {A : Type 0} (b b' : Bool) (x y z : A) (P : A → Type 0) → first_or (when b x) (when b' y) ≡ Some z → (b ≡ true → P x) → (b' ≡ true → P y) → P z
first_cases true b' x y z P e px py = let same : x ≡ z = cc in subst P same (px refl)
first_cases false true x y z P e px py = let same : y ≡ z = cc in subst P same (py refl)
first_cases false false x y z P e px py = absurd (cc)

pub equated_value : (side : Subject → Side → List Bool) (a : Assignment) (t : Attribute) (k : Constraint) (e : Expr) → equated t k ≡ Some e → Holds side a k → val a e ≡ a.attribute t
equated_value side a t (Enforce (Compare s Equal x y) place) e h holds =
    let c = compared Equal (val a x) (val a y) holds in
    let same : c.0 ≡ c.1 = same_numbers c.0 c.1 c.4 in
    let equal : val a x ≡ val a y = c.2 ∙ (ap Some same ∙ sym c.3) in
    first_cases (is_attribute t x) (is_attribute t y) y x e (λ z. val a z ≡ a.attribute t) h
    (λ b. sym equal ∙ attribute_value a t x b) (λ b. equal ∙ attribute_value a t y b)
equated_value side a t _ e h holds = absurd (cc)

pub given_cases : {A : Type 0} (o o' : Option A) (z : A) (P : A → Type 0) → first_or o o' ≡ Some z → ((x : A) → o ≡ Some x → P x) → ((x : A) → o' ≡ Some x → P x) → P z
given_cases (Some x) o' z P e p q = p z e
given_cases None o' z P e p q = q z e

-- ---- equations of remainders

both_parts : (f : ℤ → ℤ → Option ℤ) (o q : Option ℤ) (z : ℤ) → both f o q ≡ Some z → (x : ℤ) × (y : ℤ) × (o ≡ Some x) × (q ≡ Some y) × (f x y ≡ Some z)
both_parts f (Some x) (Some y) z e = (x, y, refl, refl, e)
both_parts f None q z e = absurd (cc)
both_parts f (Some x) None z e = absurd (cc)

-- a sum of an attribute of the value v and e is that sum of their values
record IsSum (a : Assignment) (e : Expr) (v z : ℤ) : Type 0 where
  more : ℤ
  more_is : val a e ≡ Some more
  sum_is : v +ℤ more ≡ z

sum_left : (a : Assignment) (o q : Option ℤ) (e : Expr) (v z : ℤ) → both (apply Add) o q ≡ Some z → o ≡ Some v → q ≡ val a e → IsSum a e v z
sum_left a o q e v z h is other =
    let p = both_parts (apply Add) o q z h in
    let same : p.0 ≡ v = let x = p.2 in cc in
    let whole : p.0 +ℤ p.1 ≡ z = let x = p.4 in cc in
    record { more = p.1; more_is = sym other ∙ p.3; sum_is = ap (λ w. w +ℤ p.1) (sym same) ∙ whole }

sum_right : (a : Assignment) (o q : Option ℤ) (e : Expr) (v z : ℤ) → both (apply Add) o q ≡ Some z → q ≡ Some v → o ≡ val a e → IsSum a e v z
sum_right a o q e v z h is other =
    let p = both_parts (apply Add) o q z h in
    let same : p.1 ≡ v = let x = p.3 in cc in
    let whole : p.0 +ℤ p.1 ≡ z = let x = p.4 in cc in
    let turned : v +ℤ p.0 ≡ p.0 +ℤ v = omega (arith, ints) in
    record { more = p.0; more_is = sym other ∙ p.2; sum_is = turned ∙ (ap (λ w. p.0 +ℤ w) (sym same) ∙ whole) }

sum_is : (a : Assignment) (t : Attribute) (v : ℤ) (op : Operator) (x y e : Expr) (z : ℤ) → a.attribute t ≡ Some v → addend t op x y ≡ Some e → both (apply op) (val a x) (val a y) ≡ Some z → IsSum a e v z
sum_is a t v Add x y e z known h is =
    first_cases (is_attribute t x) (is_attribute t y) y x e (λ w. IsSum a w v z) h
    (λ b. sum_left a (val a x) (val a y) y v z is (attribute_value a t x b ∙ known) refl)
    (λ b. sum_right a (val a x) (val a y) x v z is (attribute_value a t y b ∙ known) refl)
sum_is a t v Subtract x y e z known h is = absurd (cc)
sum_is a t v Multiply x y e z known h is = absurd (cc)
sum_is a t v Divide x y e z known h is = absurd (cc)
sum_is a t v Remainder x y e z known h is = absurd (cc)
sum_is a t v Power x y e z known h is = absurd (cc)

added_is : (a : Assignment) (t : Attribute) (v : ℤ) (x e : Expr) (z : ℤ) → a.attribute t ≡ Some v → added t x ≡ Some e → val a x ≡ Some z → IsSum a e v z
added_is a t v (Binary' s op p x q y) e z known h is = sum_is a t v op x y e z known h is
added_is a t v (Number s n) e z known h is = absurd (cc)
added_is a t v (Parameter s n) e z known h is = absurd (cc)
added_is a t v (expr.Attribute s u) e z known h is = absurd (cc)

-- what an equation of a remainder says, where the attribute has the value v
pub record Leaves (a : Assignment) (c : Congruence) (v : ℤ) : Type 0 where
  pub more : ℤ
  pub more_is : val a c.more ≡ Some more
  pub left : ℤ
  pub left_is : val a c.left ≡ Some left
  pub leaves : remainder (v +ℤ more) c.by ≡ Some left

pub congruence_parts : (o : Option Expr) (q : Option ℤ) (rest : Expr) (c : Congruence) → congruence o q rest ≡ Some c → (o ≡ Some c.more) × (q ≡ Some c.by) × (rest ≡ c.left)
congruence_parts (Some more) (Some by) rest c e =
    let same : record { more = more; by = by; left = rest } ≡ c = cc in
    ((λ i. Some (same i).more), (λ i. Some (same i).by), ap (λ (z : Congruence). z.left) same)
congruence_parts None q rest c e = absurd (cc)
congruence_parts (Some more) None rest c e = absurd (cc)

reduction_is : (a : Assignment) (t : Attribute) (v : ℤ) (op : Operator) (x y rest : Expr) (c : Congruence) (z : ℤ) → a.attribute t ≡ Some v → reduction t op x y rest ≡ Some c →
    both (apply op) (val a x) (val a y) ≡ Some z → val a rest ≡ Some z → Leaves a c v
reduction_is a t v Remainder x y rest c z known h is other =
    let p = congruence_parts (added t x) (constant y) rest c h in
    let b = both_parts (apply Remainder) (val a x) (val a y) z is in
    let s = added_is a t v x c.more b.0 known p.0 b.2 in
    let by_is : c.by ≡ b.1 = let k = constant_value a y c.by p.1 in let w = b.3 in cc in
    record {
      more = s.more;
      more_is = s.more_is;
      left = z;
      left_is = ap (val a) (sym p.2) ∙ other;
      leaves = (λ i. remainder (s.sum_is i) (by_is i)) ∙ b.4;
    }
reduction_is a t v Add x y rest c z known h is other = absurd (cc)
reduction_is a t v Subtract x y rest c z known h is other = absurd (cc)
reduction_is a t v Multiply x y rest c z known h is other = absurd (cc)
reduction_is a t v Divide x y rest c z known h is other = absurd (cc)
reduction_is a t v Power x y rest c z known h is other = absurd (cc)

reduced_is : (a : Assignment) (t : Attribute) (v : ℤ) (x rest : Expr) (c : Congruence) (z : ℤ) → a.attribute t ≡ Some v → reduced t x rest ≡ Some c → val a x ≡ Some z → val a rest ≡ Some z → Leaves a c v
reduced_is a t v (Binary' s op p x q y) rest c z known h is other = reduction_is a t v op x y rest c z known h is other
reduced_is a t v (Number s n) rest c z known h is other = absurd (cc)
reduced_is a t v (Parameter s n) rest c z known h is other = absurd (cc)
reduced_is a t v (expr.Attribute s u) rest c z known h is other = absurd (cc)

pub congruent_is : (side : Subject → Side → List Bool) (a : Assignment) (t : Attribute) (v : ℤ) (k : Constraint) (c : Congruence) → a.attribute t ≡ Some v → congruent t k ≡ Some c → Holds side a k → Leaves a c v
congruent_is side a t v (Enforce (Compare s Equal x y) place) c known h holds =
    let p = compared Equal (val a x) (val a y) holds in
    let same : p.0 ≡ p.1 = same_numbers p.0 p.1 p.4 in
    given_cases (reduced t x y) (reduced t y x) c (λ z. Leaves a z v) h
    (λ z e. reduced_is a t v x y z p.0 known e p.2 (p.3 ∙ ap Some (sym same)))
    (λ z e. reduced_is a t v y x z p.1 known e p.3 (p.2 ∙ ap Some same))
congruent_is side a t v _ c known h holds = absurd (cc)

-- ---- remainders of the value of a field

-- the bounds by which it is given
pub record RemainderParts (sizes : FormatSizes) (i : ℕ) (k : Constraint) (c : Congruence) : Type 0 where
  pub bounds : Sizes
  pub bounds_at : slice_get sizes.fields i ≡ Some bounds
  pub is : congruent (attribute_of i Uncompressed measure.Value) k ≡ Some c
  pub reached : pos (2 ^ bounds.uncompressed.most) ≤ℤ c.by

pub remainder_parts : (sizes : FormatSizes) (i : ℕ) (k : Constraint) (c : Congruence) → remainder_given sizes i k ≡ Some c → RemainderParts sizes i k c
remainder_parts sizes i k c e =
    let t = attribute_of i Uncompressed measure.Value in
    let g = and_then_some (λ (c : Congruence). option_and_then (λ (b : Sizes). when (is_reached b.uncompressed.most c.by) c) (slice_get sizes.fields i)) (congruent t k) c e in
    let b = and_then_some (λ (b : Sizes). when (is_reached b.uncompressed.most g.0.by) g.0) (slice_get sizes.fields i) c g.2 in
    let w = when_some (is_reached b.0.uncompressed.most g.0.by) g.0 c b.2 in
    record {
      bounds = b.0;
      bounds_at = b.1;
      is = g.1 ∙ ap Some w.1;
      reached = subst (λ (z : Congruence). pos (2 ^ b.0.uncompressed.most) ≤ℤ z.by) w.1 (le_true (pos (2 ^ b.0.uncompressed.most)) g.0.by w.0);
    }

-- bits that are not too many spell a number below the divisor
below_divisor : (bits : List Bool) (w : ℕ) (by : ℤ) → length bits ≤ w → pos (2 ^ w) ≤ℤ by → pos (num bits) <ℤ by
below_divisor bits w by few reached =
    let low : num bits < 2 ^ length bits = num-below bits in
    let up : 2 ^ length bits ≤ 2 ^ w = pow-le-pow_right (omega arith) few in
    omega (arith, ints)

-- so it is what is left
pub record Left (a : Assignment) (c : Congruence) (bits : List Bool) : Type 0 where
  pub more : ℤ
  pub more_is : val a c.more ≡ Some more
  pub left : ℤ
  pub left_is : val a c.left ≡ Some left
  pub over : IsLeft (num bits) more c.by left

pub left_of : (side : Subject → Side → List Bool) (a : Assignment) (sizes : FormatSizes) (b : Sizes) (i : ℕ) (k : Constraint) (c : Congruence) (bits : List Bool) → a.attribute (attribute_of i Uncompressed measure.Value) ≡ Some (pos (num bits)) →
    remainder_given sizes i k ≡ Some c → slice_get sizes.fields i ≡ Some b → length bits ≤ b.uncompressed.most → Holds side a k → Left a c bits
left_of side a sizes b i k c bits known e at few holds =
    let p = remainder_parts sizes i k c e in
    let one : p.bounds ≡ b = let x = p.bounds_at in cc in
    let l = congruent_is side a (attribute_of i Uncompressed measure.Value) (pos (num bits)) k c known p.is holds in
    let low = below_divisor bits b.uncompressed.most c.by few (subst (λ (z : Sizes). pos (2 ^ z.uncompressed.most) ≤ℤ c.by) one p.reached) in
    record { more = l.more; more_is = l.more_is; left = l.left; left_is = l.left_is; over = left_over (num bits) l.more c.by l.left low l.leaves }

sole_is : (es : List Expr) (e : Expr) → sole es ≡ Some e → (n : ℕ) (x : Expr) → slice_get es n ≡ Some x → x ≡ e
sole_is (y ∷ []) e h zero x is = cc
sole_is (y ∷ []) e h (suc n) x is = absurd (cc)
sole_is _ e h n x is = absurd (cc)

bracket_value : (side : Subject → Side → List Bool) (a : Assignment) (i : ℕ) (which : Side) (k : Constraint) (e : Expr) → bracketed i which k ≡ Some e → Holds side a k → val a e ≡ Some (pos (length (side (subject.Field i) which)))
bracket_value side a i which (Bracket j which' lengths place) e h holds =
    let t = and_then_some (λ e. when (nat_eq j i && same_side which' which) e) (sole lengths) e h in
    let w = when_some (nat_eq j i && same_side which' which) t.0 e t.2 in
    let b = and_true (nat_eq j i) (same_side which' which) w.0 in
    let is : holds.1 ≡ e = sole_is lengths t.0 t.1 holds.0 holds.1 holds.2 ∙ w.1 in
    ap (val a) (sym is) ∙ (holds.3 ∙ (λ z. Some (pos (length (side (subject.Field (eqb-true j i b.0 z)) (side_same which' which b.1 z))))))
bracket_value side a i which (Enforce condition place) e h holds = absurd (cc)

pub length_value : (side : Subject → Side → List Bool) (a : Assignment) (i : ℕ) (which : Side) (k : Constraint) (e : Expr) →
    a.attribute (attribute_of i which measure.Length) ≡ Some (pos (length (side (subject.Field i) which))) →
    length_given i which k ≡ Some e → Holds side a k → val a e ≡ Some (pos (length (side (subject.Field i) which)))
length_value side a i which k e is h holds =
    given_cases (bracketed i which k) (equated (attribute_of i which measure.Length) k) e (λ z. val a z ≡ Some (pos (length (side (subject.Field i) which)))) h
    (λ x b. bracket_value side a i which k x b holds)
    (λ x b. equated_value side a (attribute_of i which measure.Length) k x b holds ∙ is)
