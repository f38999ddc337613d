-- What a constraint gives for a length or a value is sound.
use Rattle.std.proofs.Common.{◌≡◌, refl, ◌∙◌, ap, subst, ℕ, List, [], ◌∷◌, ◌++◌}
use Rattle.std.specs.Prelude.{Some, false, slice_get, nat_eq, ◌&&◌, Result, Ok, Err, IsOk}
use Rattle.sem_expr.specs.declared.expr.Operator.{Operator}
use Rattle.sem_expr.specs.declared.expr.Operator.TheVariants.{Add, Subtract, Multiply, Divide, Remainder, Power}
use Rattle.sem_expr.specs.declared.expr.Expr.TheVariants as expr
use Rattle.sem_expr.specs.declared.expr.Expr.TheVariants.{Number, Parameter, Binary'}
use Rattle.sem_expr.specs.declared.interval.Interval.{Interval}
use Rattle.sem_expr.specs.declared.fault.RangeFault.{RangeFault}
use Rattle.sem_expr.specs.Ranged.{joined, both_ranged, ranged}
use Rattle.sem_expr.specs.Bounds.{bounding_of}
use Rattle.sem_profile.specs.Constants.{constant}
use Rattle.sem_profile.specs.BoundsFaults.{is_wide}
use Rattle.sem_expr.specs.declared.inputs.Input.TheVariants as input
use Rattle.sem_expr.specs.declared.expr.Attribute.{Attribute}
use Rattle.sem_expr.specs.declared.expr.Side.{Side}
use Rattle.sem_expr.specs.declared.expr.Side.TheVariants.{Uncompressed}
use Rattle.sem_expr.specs.declared.expr.Measure.TheVariants as measure
use Rattle.sem_expr.specs.declared.expr.Comparison.TheVariants.{Equal}
use Rattle.sem_expr.specs.declared.expr.Expr.{Expr}
use Rattle.sem_expr.specs.declared.expr.Cond.TheVariants.{Compare}
use Rattle.sem_expr.specs.declared.ranges.Ranges.{Ranges}
use Rattle.sem_expr.specs.Inputs.{inputs_of}
use Rattle.sem_profile.specs.declared.profile.FormatSizes.{FormatSizes}
use Rattle.sem_profile.specs.declared.profile.Constraint.{Constraint}
use Rattle.sem_profile.specs.declared.profile.Constraint.TheVariants.{Bracket, Enforce}
use Rattle.sem_profile.specs.declared.profile.Format.{Format}
use Rattle.sem_profile.specs.BoundsLaws.{in_bracket, IsSound, AllSound}
use Rattle.sem_filling.proofs.FitsSized.{and_then_some}
use Rattle.cert_rules.specs.Facts.{same_side}
use Rattle.cert_rules.specs.Rules.{when, is_attribute, equated, Congruence, addend, added, reduction, reduced, congruent, remainder_given, sole, bracketed, attribute_of}
use Rattle.cert_rules.specs.Numbers.{GivenIsSound}
use Rattle.cert_rules.proofs.ViewsAgree.{when_some}
use Rattle.cert_rules.proofs.RulesConstraints.{first_cases, given_cases, congruence_parts, remainder_parts}
use Rattle.cert_rules.proofs.Numbers.{in_left, in_right}

sole_at : (es : List Expr) (e : Expr) → sole es ≡ Some e → slice_get es 0 ≡ Some e
sole_at (x ∷ []) e h = h
sole_at _ e h = absurd (cc)

module _ (format : Format) (sizes : FormatSizes) (r : Ranges) (sound : AllSound format sizes r) where
  equated_sound : (t : Attribute) (j : ℕ) (k : Constraint) (e : Expr) → slice_get format.constraints j ≡ Some k → equated t k ≡ Some e → IsSound sizes r e
  equated_sound t j (Enforce (Compare s Equal x y) place) e at h =
      let c = sound.conditions j (Compare s Equal x y) place at in
      first_cases (is_attribute t x) (is_attribute t y) y x e (IsSound sizes r) h
      (λ b. record { accepted = c.accepted.1; narrow = λ n u is. let p = in_right (inputs_of x) (inputs_of y) n (input.Attribute u) is in c.narrow p.0 u p.1 })
      (λ b. record { accepted = c.accepted.0; narrow = λ n u is. c.narrow n u (in_left (inputs_of x) (inputs_of y) n (input.Attribute u) is) })
  equated_sound t j _ e at h = absurd (cc)

  bracketed_sound : (i j : ℕ) (side : Side) (k : Constraint) (e : Expr) → slice_get format.constraints j ≡ Some k → bracketed i side k ≡ Some e → IsSound sizes r e
  bracketed_sound i j side (Bracket field which lengths place) e at h =
      let t = and_then_some (λ e. when (nat_eq field i && same_side which side) e) (sole lengths) e h in
      let w = when_some (nat_eq field i && same_side which side) t.0 e t.2 in
      sound.expressions e (in_bracket j 0 at (sole_at lengths t.0 t.1 ∙ ap Some w.1))
  bracketed_sound i j side (Enforce condition place) e at h = absurd (cc)

  -- ---- equations of remainders

  ok_left : (f : Interval → Interval → Result Interval RangeFault) (o u : Result Interval RangeFault) → IsOk (both_ranged f o u) → IsOk o
  ok_left f (Ok i) u h = refl
  ok_left f (Err e) u h = absurd (cc)

  ok_right : (f : Interval → Interval → Result Interval RangeFault) (o u : Result Interval RangeFault) → IsOk (both_ranged f o u) → IsOk u
  ok_right f (Ok i) (Ok j) h = refl
  ok_right f (Ok i) (Err e) h = absurd (cc)
  ok_right f (Err e) u h = absurd (cc)

  -- the operands of a sound expression are sound
  operands : (f : Interval → Interval → Result Interval RangeFault) (x y : Expr) → IsOk (both_ranged f (ranged (bounding_of r) x) (ranged (bounding_of r) y)) →
      ((k : ℕ) (t : Attribute) → slice_get (inputs_of x ++ inputs_of y) k ≡ Some (input.Attribute t) → is_wide sizes t ≡ false) → IsSound sizes r x × IsSound sizes r y
  operands f x y h narrow = (
    record { accepted = ok_left f (ranged (bounding_of r) x) (ranged (bounding_of r) y) h; narrow = λ n u is. narrow n u (in_left (inputs_of x) (inputs_of y) n (input.Attribute u) is) },
    record { accepted = ok_right f (ranged (bounding_of r) x) (ranged (bounding_of r) y) h; narrow = λ n u is. let p = in_right (inputs_of x) (inputs_of y) n (input.Attribute u) is in narrow p.0 u p.1 },
  )

  addend_sound : (t : Attribute) (op : Operator) (x y e : Expr) → addend t op x y ≡ Some e → IsSound sizes r x → IsSound sizes r y → IsSound sizes r e
  addend_sound t Add x y e h sx sy = first_cases (is_attribute t x) (is_attribute t y) y x e (IsSound sizes r) h (λ b. sy) (λ b. sx)
  addend_sound t Subtract x y e h sx sy = absurd (cc)
  addend_sound t Multiply x y e h sx sy = absurd (cc)
  addend_sound t Divide x y e h sx sy = absurd (cc)
  addend_sound t Remainder x y e h sx sy = absurd (cc)
  addend_sound t Power x y e h sx sy = absurd (cc)

  added_sound : (t : Attribute) (x e : Expr) → added t x ≡ Some e → IsSound sizes r x → IsSound sizes r e
  added_sound t (Binary' s op p x q y) e h sound = let o = operands (joined s op) x y sound.accepted sound.narrow in addend_sound t op x y e h o.0 o.1
  added_sound t (Number s n) e h sound = absurd (cc)
  added_sound t (Parameter s n) e h sound = absurd (cc)
  added_sound t (expr.Attribute s u) e h sound = absurd (cc)

  pub record CongruenceSound (c : Congruence) : Type 0 where
    pub more_sound : IsSound sizes r c.more
    pub left_sound : IsSound sizes r c.left

  reduction_sound : (t : Attribute) (op : Operator) (x y rest : Expr) (c : Congruence) → reduction t op x y rest ≡ Some c → IsSound sizes r x → IsSound sizes r rest → CongruenceSound c
  reduction_sound t Remainder x y rest c h sx sr =
      let p = congruence_parts (added t x) (constant y) rest c h in
      record { more_sound = added_sound t x c.more p.0 sx; left_sound = subst (IsSound sizes r) p.2 sr }
  reduction_sound t Add x y rest c h sx sr = absurd (cc)
  reduction_sound t Subtract x y rest c h sx sr = absurd (cc)
  reduction_sound t Multiply x y rest c h sx sr = absurd (cc)
  reduction_sound t Divide x y rest c h sx sr = absurd (cc)
  reduction_sound t Power x y rest c h sx sr = absurd (cc)

  reduced_sound : (t : Attribute) (x rest : Expr) (c : Congruence) → reduced t x rest ≡ Some c → IsSound sizes r x → IsSound sizes r rest → CongruenceSound c
  reduced_sound t (Binary' s op p x q y) rest c h sound sr = let o = operands (joined s op) x y sound.accepted sound.narrow in reduction_sound t op x y rest c h o.0 sr
  reduced_sound t (Number s n) rest c h sound sr = absurd (cc)
  reduced_sound t (Parameter s n) rest c h sound sr = absurd (cc)
  reduced_sound t (expr.Attribute s u) rest c h sound sr = absurd (cc)

  pub congruent_sound : (t : Attribute) (j : ℕ) (k : Constraint) (c : Congruence) → slice_get format.constraints j ≡ Some k → congruent t k ≡ Some c → CongruenceSound c
  congruent_sound t j (Enforce (Compare s Equal x y) place) c at h =
      let k = sound.conditions j (Compare s Equal x y) place at in
      let sx : IsSound sizes r x = record { accepted = k.accepted.0; narrow = λ n u is. k.narrow n u (in_left (inputs_of x) (inputs_of y) n (input.Attribute u) is) } in
      let sy : IsSound sizes r y = record { accepted = k.accepted.1; narrow = λ n u is. let p = in_right (inputs_of x) (inputs_of y) n (input.Attribute u) is in k.narrow p.0 u p.1 } in
      given_cases (reduced t x y) (reduced t y x) c CongruenceSound h (λ z e. reduced_sound t x y z e sx sy) (λ z e. reduced_sound t y x z e sy sx)
  congruent_sound t j _ c at h = absurd (cc)

  remainder_sound : (i j : ℕ) (k : Constraint) (c : Congruence) → slice_get format.constraints j ≡ Some k → remainder_given sizes i k ≡ Some c → CongruenceSound c
  remainder_sound i j k c at h = congruent_sound (attribute_of i Uncompressed measure.Value) j k c at (remainder_parts sizes i k c h).is

pub given_is_sound : GivenIsSound
given_is_sound format sizes r sound = record {
  lengths = λ i j side k e at h. given_cases (bracketed i side k) (equated (attribute_of i side measure.Length) k) e (IsSound sizes r) h
      (λ x b. bracketed_sound format sizes r sound i j side k x at b) (λ x b. equated_sound format sizes r sound (attribute_of i side measure.Length) j k x at b);
  values = λ i j k e at h. equated_sound format sizes r sound (attribute_of i Uncompressed measure.Value) j k e at h;
  addends = λ i j k c at h. (remainder_sound format sizes r sound i j k c at h).more_sound;
  lefts = λ i j k c at h. (remainder_sound format sizes r sound i j k c at h).left_sound;
}
