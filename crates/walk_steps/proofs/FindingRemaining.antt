-- Values by equations of remainders.
use Rattle.std.proofs.Common.{◌≡◌, refl, sym, ◌∙◌, ap, subst, ℕ, true, false, ◌⊎◌, inl, inr, [], ◌∷◌, ◌++◌}
use Rattle.std.specs.Prelude.{Option, Some, None, slice_get, option_and_then, option_map}
use Rattle.cert_types.specs.declared.certificate.Version.TheVariants.{Two}
use Rattle.cert_types.specs.declared.certificate.Step.TheVariants as step
use Rattle.cert_types.specs.declared.rule.Fact.TheVariants.{LengthOf, BitsOf}
use Rattle.cert_types.specs.declared.rule.Rule.{Rule}
use Rattle.sem_expr.specs.declared.expr.Attribute.{Attribute}
use Rattle.sem_expr.specs.declared.expr.Comparison.TheVariants.{Equal}
use Rattle.sem_expr.specs.declared.expr.Cond.TheVariants.{Compare}
use Rattle.sem_expr.specs.declared.expr.Expr.{Expr}
use Rattle.sem_expr.specs.declared.expr.Expr.TheVariants as expr
use Rattle.sem_expr.specs.declared.expr.Expr.TheVariants.{Number, Parameter, Binary'}
use Rattle.sem_expr.specs.declared.expr.Measure.TheVariants as measure
use Rattle.sem_expr.specs.declared.expr.Operator.{Operator}
use Rattle.sem_expr.specs.declared.expr.Operator.TheVariants.{Add, Subtract, Multiply, Divide, Remainder, Power}
use Rattle.sem_expr.specs.declared.expr.Side.TheVariants.{Uncompressed}
use Rattle.sem_expr.specs.declared.inputs.Input.TheVariants as input
use Rattle.sem_expr.specs.declared.ranges.Ranges.{Ranges}
use Rattle.sem_expr.specs.Inputs.{inputs_of}
use Rattle.sem_profile.specs.declared.profile.Constraint.{Constraint}
use Rattle.sem_profile.specs.declared.profile.Constraint.TheVariants.{Enforce}
use Rattle.sem_profile.specs.declared.profile.Field.{Field}
use Rattle.sem_profile.specs.declared.profile.Format.{Format}
use Rattle.sem_profile.specs.declared.profile.FormatSizes.{FormatSizes}
use Rattle.sem_profile.specs.Constants.{constant}
use Rattle.sem_profile.specs.BoundsFaults.{is_wide, is_wide_by}
use Rattle.sem_profile.specs.BoundsLaws.{AllSound}
use Rattle.sem_filling.proofs.FitsSized.{and_then_some, map_some}
use Rattle.cert_rules.specs.Facts.{inputs}
use Rattle.cert_rules.specs.Rules.{rule, first_or, is_attribute, attribute_of, Congruence, addend, added, reduction, reduced, congruent, value_given, remainder_given, by_equation, by_remainder, by_value, common_rule}
use Rattle.cert_rules.specs.Slots.{knows_all}
use Rattle.cert_rules.proofs.RulesConstraints.{first_cases, given_cases, congruence_parts}
use Rattle.cert_rules.proofs.Numbers.{in_left, in_right}
use Rattle.walk_steps.specs.Partial.{Reached, bounds_at}
use Rattle.walk_steps.specs.Finding.{IsReady}
use Rattle.walk_steps.proofs.FindingRuled.{ready_parts}
use Rattle.walk_steps.proofs.FindingNarrow.{attribute_narrow}

-- ---- a step that is ready solves one of the two forms

pub record Remaining (l : Reached) (i j : ℕ) : Type 0 where
  pub field : Field
  pub at : slice_get l.format.fields i ≡ Some field
  pub constraint : Constraint
  pub constraint_at : slice_get l.format.constraints j ≡ Some constraint
  pub other : value_given i constraint ≡ None
  pub parts : Congruence
  pub given_is : remainder_given l.sizes i constraint ≡ Some parts
  pub known : knows_all l.format l.slots (LengthOf Uncompressed i ∷ inputs l.format parts.more ++ inputs l.format parts.left) ≡ true

no_map : {A B : Type 0} (f : A → B) (o : Option A) → option_map f o ≡ None → o ≡ None
no_map f None e = refl
no_map f (Some x) e = absurd (cc)

same_rule : (x y : Rule) → Some x ≡ Some y → x ≡ y
same_rule x y e = cc

pub split : (l : Reached) (i j : ℕ) → IsReady l (common_rule Two l.sizes l.format (step.Solve i j)) → IsReady l (option_and_then (λ d. by_equation l.format i j) (slice_get l.format.fields i)) ⊎ Remaining l i j
split l i j ready =
    let p = ready_parts l (common_rule Two l.sizes l.format (step.Solve i j)) ready in
    let a = and_then_some (λ (d : Field). by_value Two l.sizes l.format i j) (slice_get l.format.fields i) p.0 p.1 in
    by p.0 p.2 a.0 a.1 (by_equation l.format i j) refl a.2
  where
    by : (r : Rule) → knows_all l.format l.slots r.needs ≡ true → (d : Field) → slice_get l.format.fields i ≡ Some d → (o : Option Rule) → by_equation l.format i j ≡ o → first_or o (by_remainder l.sizes l.format i j) ≡ Some r →
        IsReady l (option_and_then (λ d. by_equation l.format i j) (slice_get l.format.fields i)) ⊎ Remaining l i j
    by r known d at (Some q) e h =
        let same : q ≡ r = same_rule q r h in
        let here : knows_all l.format l.slots q.needs ≡ true = subst (λ (z : Rule). knows_all l.format l.slots z.needs ≡ true) (sym same) known in
        inl (subst (IsReady l) (sym (ap (option_and_then (λ (d : Field). by_equation l.format i j)) at ∙ e)) here)
    by r known d at None e h =
        let made = λ (c : Congruence). rule (LengthOf Uncompressed i ∷ inputs l.format c.more ++ inputs l.format c.left) (BitsOf Uncompressed i ∷ []) in
        let m = map_some made (option_and_then (remainder_given l.sizes i) (slice_get l.format.constraints j)) r h in
        let g = and_then_some (remainder_given l.sizes i) (slice_get l.format.constraints j) m.0 m.1 in
        let none : option_and_then (value_given i) (slice_get l.format.constraints j) ≡ None = no_map (λ (x : Expr). rule (LengthOf Uncompressed i ∷ inputs l.format x) (BitsOf Uncompressed i ∷ [])) _ e in
        inr (record {
          field = d;
          at = at;
          constraint = g.0;
          constraint_at = g.1;
          other = ap (option_and_then (value_given i)) (sym g.1) ∙ none;
          parts = m.0;
          given_is = g.2;
          known = subst (λ (z : Rule). knows_all l.format l.slots z.needs ≡ true) (sym m.2) known;
        })

-- ---- the attribute of such an equation is narrow

module _ (i : ℕ) (sizes : FormatSizes) where
  abbrev Narrow : Type 0
  Narrow = is_wide_by measure.Value (bounds_at sizes i Uncompressed) ≡ false

  abbrev NarrowIn : Expr → Type 0
  NarrowIn x = (k : ℕ) (u : Attribute) → slice_get (inputs_of x) k ≡ Some (input.Attribute u) → is_wide sizes u ≡ false

  addend_narrow : (op : Operator) (x y e : Expr) → addend (attribute_of i Uncompressed measure.Value) op x y ≡ Some e → NarrowIn x → NarrowIn y → Narrow
  addend_narrow Add x y e h nx ny =
      let t = attribute_of i Uncompressed measure.Value in
      first_cases (is_attribute t x) (is_attribute t y) y x e (λ z. Narrow) h (λ b. attribute_narrow i sizes x b nx) (λ b. attribute_narrow i sizes y b ny)
  addend_narrow Subtract x y e h nx ny = absurd (cc)
  addend_narrow Multiply x y e h nx ny = absurd (cc)
  addend_narrow Divide x y e h nx ny = absurd (cc)
  addend_narrow Remainder x y e h nx ny = absurd (cc)
  addend_narrow Power x y e h nx ny = absurd (cc)

  added_narrow : (x e : Expr) → added (attribute_of i Uncompressed measure.Value) x ≡ Some e → NarrowIn x → Narrow
  added_narrow (Binary' s op p x q y) e h n =
      addend_narrow op x y e h (λ k u is. n k u (in_left (inputs_of x) (inputs_of y) k (input.Attribute u) is)) (λ k u is. let b = in_right (inputs_of x) (inputs_of y) k (input.Attribute u) is in n b.0 u b.1)
  added_narrow (Number s v) e h n = absurd (cc)
  added_narrow (Parameter s v) e h n = absurd (cc)
  added_narrow (expr.Attribute s u) e h n = absurd (cc)

  reduction_narrow : (op : Operator) (x y rest : Expr) (c : Congruence) → reduction (attribute_of i Uncompressed measure.Value) op x y rest ≡ Some c → NarrowIn x → Narrow
  reduction_narrow Remainder x y rest c h n =
      let p = congruence_parts (added (attribute_of i Uncompressed measure.Value) x) (constant y) rest c h in added_narrow x c.more p.0 n
  reduction_narrow Add x y rest c h n = absurd (cc)
  reduction_narrow Subtract x y rest c h n = absurd (cc)
  reduction_narrow Multiply x y rest c h n = absurd (cc)
  reduction_narrow Divide x y rest c h n = absurd (cc)
  reduction_narrow Power x y rest c h n = absurd (cc)

  reduced_narrow : (x rest : Expr) (c : Congruence) → reduced (attribute_of i Uncompressed measure.Value) x rest ≡ Some c → NarrowIn x → Narrow
  reduced_narrow (Binary' s op p x q y) rest c h n = reduction_narrow op x y rest c h (λ k u is. n k u (in_left (inputs_of x) (inputs_of y) k (input.Attribute u) is))
  reduced_narrow (Number s v) rest c h n = absurd (cc)
  reduced_narrow (Parameter s v) rest c h n = absurd (cc)
  reduced_narrow (expr.Attribute s u) rest c h n = absurd (cc)

  pub remaining_narrow : (format : Format) (r : Ranges) → AllSound format sizes r → (j : ℕ) (k : Constraint) (c : Congruence) → slice_get format.constraints j ≡ Some k → congruent (attribute_of i Uncompressed measure.Value) k ≡ Some c → Narrow
  remaining_narrow format r sound j (Enforce (Compare s Equal x y) place) c at h =
      let all = sound.conditions j (Compare s Equal x y) place at in
      let t = attribute_of i Uncompressed measure.Value in
      given_cases (reduced t x y) (reduced t y x) c (λ z. Narrow) h
      (λ z e. reduced_narrow x y z e (λ n u is. all.narrow n u (in_left (inputs_of x) (inputs_of y) n (input.Attribute u) is)))
      (λ z e. reduced_narrow y x z e (λ n u is. let b = in_right (inputs_of x) (inputs_of y) n (input.Attribute u) is in all.narrow b.0 u b.1))
  remaining_narrow format r sound j _ c at h = absurd (cc)
