-- Values lie in ranges, so 128 bits suffice for them.
use Rattle.std.proofs.Common.{◌≡◌, refl, sym, ◌∙◌, subst, true, false, ℤ, pos, ◌≤ℤ◌, Option, Some, None, Result, Ok, Err, IfSome, arith}
use Rattle.std.specs.Prelude.{IsOk}
use Rattle.std.specs.Int.Signed.{≤ℤ_refl}
use Rattle.std.proofs.lemmas.Int.{ints}
use Rattle.std.proofs.lemmas.Bool.{or_parts}
use Rattle.text_source.specs.declared.span.Span.{Span}
use Rattle.sem_expr.specs.declared.interval.Interval.{Interval}
use Rattle.sem_expr.specs.declared.fault.RangeFault.{RangeFault}
use Rattle.sem_expr.specs.declared.expr.Operator.{Operator}
use Rattle.sem_expr.specs.declared.expr.Operator.TheVariants.{Power}
use Rattle.sem_expr.specs.declared.expr.Expr.{Expr}
use Rattle.sem_expr.specs.declared.expr.Expr.TheVariants as expr
use Rattle.sem_expr.specs.declared.expr.Expr.TheVariants.{Number, Parameter, Binary'}
use Rattle.sem_expr.specs.Values.{Assignment, val, apply}
use Rattle.sem_expr.specs.Rules.{IsIn, from_to, is_limited, is_within, rule, refuses, has_negative, passes}
use Rattle.sem_expr.specs.Ranged.{Bounding, ranged, joined}
use Rattle.sem_expr.specs.Spread.{LieIn, IsRanged, IsAccepted, IsCalculable}
use Rattle.sem_expr.proofs.RulesParts.{both_there, both_are_ranged, limited_is, joined_is}
use Rattle.sem_expr.proofs.RulesSound.{rule_holds}
use Rattle.sem_expr.proofs.RulesLimits.{within_between, not_passed, fits}
use Rattle.sem_expr.proofs.RulesFitting.{held, held_is}

if_some : {A : Type 0} (P : A → Type 0) (o : Option A) (v : A) → IfSome o P → o ≡ Some v → P v
if_some P None v h e = absurd (cc)
if_some P (Some w) v h e = let same : w ≡ v = cc in subst P same h

module _ (a : Assignment) (r : Bounding) (lie : LieIn a r) where
  pub lies : (e : Expr) (i : Interval) (v : ℤ) → ranged r e ≡ Ok i → val a e ≡ Some v → IsIn i v
  lies (Number s n) i v h g =
      let l = limited_is s (from_to n n) i h in
      let own : IsIn (from_to n n) n = record { above = ≤ℤ_refl n; below = ≤ℤ_refl n } in
      let same : n ≡ v = cc in
      subst (λ j. IsIn j v) l.same (subst (λ z. IsIn (from_to n n) z) same own)
  lies (Parameter s k) i v h g =
      subst (λ j. IsIn j v) (limited_is s (r.parameter k) i h).same (if_some (IsIn (r.parameter k)) (a.parameter k) v (lie.parameters k) g)
  lies (expr.Attribute s t) i v h g =
      subst (λ j. IsIn j v) (limited_is s (r.attribute t) i h).same (if_some (IsIn (r.attribute t)) (a.attribute t) v (lie.attributes t) g)
  lies (Binary' s op p x q y) i v h g =
      let b = both_are_ranged (joined s op) (ranged r x) (ranged r y) i h in
      let w = both_there (apply op) (val a x) (val a y) v g in
      let j = joined_is s op b.first b.second i b.range_is in
      let left = lies x b.first w.first b.first_is w.first_is in
      let right = lies y b.second w.second b.second_is w.second_is in
      subst (λ k. IsIn k v) j.range.same (rule_holds op b.first b.second w.first w.second v left right j.accepted w.value_is)

pub ranged_limited : (r : Bounding) (e : Expr) (i : Interval) → ranged r e ≡ Ok i → is_limited i ≡ true
ranged_limited r (Number s n) i h = let l = limited_is s (from_to n n) i h in subst (λ j. is_limited j ≡ true) l.same l.within
ranged_limited r (Parameter s k) i h = let l = limited_is s (r.parameter k) i h in subst (λ j. is_limited j ≡ true) l.same l.within
ranged_limited r (expr.Attribute s t) i h = let l = limited_is s (r.attribute t) i h in subst (λ j. is_limited j ≡ true) l.same l.within
ranged_limited r (Binary' s op p x q y) i h =
    let b = both_are_ranged (joined s op) (ranged r x) (ranged r y) i h in
    let l = (joined_is s op b.first b.second i b.range_is).range in
    subst (λ j. is_limited j ≡ true) l.same l.within

pub val_within : (a : Assignment) (r : Bounding) (lie : LieIn a r) (e : Expr) (i : Interval) (v : ℤ) → ranged r e ≡ Ok i → val a e ≡ Some v → is_within v ≡ true
val_within a r lie e i v h g = within_between i v (ranged_limited r e i h) (lies a r lie e i v h g)

accepted_by : (o : Result Interval RangeFault) → IsOk o → (i : Interval) × (o ≡ Ok i)
accepted_by (Ok i) h = (i, refl)
accepted_by (Err e) h = absurd (cc)

outcome_within : (o : Option ℤ) → ((v : ℤ) → o ≡ Some v → is_within v ≡ true) → IfSome o (λ v. is_within v ≡ true)
outcome_within None h = tt
outcome_within (Some v) h = h v refl

exponent_below : (op : Operator) (i j : Interval) (y : ℤ) → refuses op i j ≡ false → IsIn j y → op ≡ Power → y ≤ℤ pos 127
exponent_below op i j y e p h =
    let at_power : refuses Power i j ≡ false = subst (λ o. refuses o i j ≡ false) h e in
    let m = not_passed (pos 127) j (or_parts (has_negative i) (passes (pos 127) j) at_power).1 in
    omega (arith, ints)

-- what calculating asks of the operands, at an operator's part that is ranged
pub calculable : (a : Assignment) (s : Span) (op : Operator) (p : _) (x : Expr) (q : _) (y : Expr) (v w : ℤ) →
    IsRanged a (Binary' s op p x q y) → val a x ≡ Some v → val a y ≡ Some w → IsCalculable op v w
calculable a s op p x q y v w h f g =
    let k = accepted_by (ranged h.ranges (Binary' s op p x q y)) h.accepted in
    let b = both_are_ranged (joined s op) (ranged h.ranges x) (ranged h.ranges y) k.0 k.1 in
    let j = joined_is s op b.first b.second k.0 b.range_is in
    let left = lies a h.ranges h.lie x b.first v b.first_is f in
    let right = lies a h.ranges h.lie y b.second w b.second_is g in
    record {
      left = val_within a h.ranges h.lie x b.first v b.first_is f;
      right = val_within a h.ranges h.lie y b.second w b.second_is g;
      outcome = outcome_within (apply op v w) (λ u e.
          within_between (rule op b.first b.second) u j.range.within (rule_holds op b.first b.second v w u left right j.accepted e));
      exponent = exponent_below op b.first b.second w j.accepted right;
    }

-- the same, as the code holds the operands
pub calculable_at : (a : Assignment) (s : Span) (op : Operator) (p : _) (x : Expr) (q : _) (y : Expr) (e : Expr) (v w : ℤ) →
    e ≡ Binary' s op p x q y → IsRanged a e → Some v ≡ val a x → Some w ≡ val a y → IsCalculable op (held v) (held w)
calculable_at a s op p x q y e v w e_is h f g =
    let at : IsRanged a (Binary' s op p x q y) = subst (IsRanged a) e_is h in
    let k = calculable a s op p x q y v w at (sym f) (sym g) in
    subst (λ z. IsCalculable op z (held w)) (sym (held_is v (fits v k.left))) (subst (λ z. IsCalculable op v z) (sym (held_is w (fits w k.right))) k)

-- the range that was answered says that the expression is accepted
pub accepted_at : (r : Bounding) (e : Expr) (o : Result Interval RangeFault) (i : Interval) → o ≡ ranged r e → o ≡ Ok i → IsAccepted r e
accepted_at r e o i h g = let same : ranged r e ≡ Ok i = sym h ∙ g in subst (λ u. IsOk u) (sym same) refl
