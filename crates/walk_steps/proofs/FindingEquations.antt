-- Values that equations give.
use Rattle.std.proofs.Common.{◌≡◌, refl, sym, ◌∙◌, ap, subst, inl, inr, ◌++◌, ◌<◌, ◌≤◌, ℕ, Bool, true, false, List, [], ◌∷◌, length, arith}
use Rattle.std.specs.Prelude.{Option, Some, None, IfSome, slice_get, option_and_then, option_map, unwrap_or, nat_lt, ℤ, pos}
use Rattle.std.proofs.lemmas.Bool.{ltb-false}
use Rattle.sem_bits.specs.Number.{num}
use Rattle.sem_context.specs.Entries.{bits_at}
use Rattle.cert_types.specs.declared.certificate.Step.TheVariants as step
use Rattle.cert_types.specs.declared.certificate.Version.TheVariants.{Two}
use Rattle.cert_types.specs.declared.rule.Fact.TheVariants.{LengthOf, BitsOf}
use Rattle.sem_expr.specs.declared.expr.Side.TheVariants.{Uncompressed}
use Rattle.sem_expr.specs.declared.expr.Measure.TheVariants as measure
use Rattle.sem_expr.specs.declared.expr.Comparison.TheVariants.{Equal}
use Rattle.sem_expr.specs.declared.expr.Cond.TheVariants.{Compare}
use Rattle.sem_expr.specs.declared.expr.Expr.{Expr}
use Rattle.sem_expr.specs.declared.inputs.Input.TheVariants as input
use Rattle.sem_expr.specs.Inputs.{inputs_of}
use Rattle.sem_expr.specs.Values.{val}
use Rattle.sem_library.specs.Methods.{IsOnly}
use Rattle.sem_profile.specs.declared.profile.Constraint.{Constraint}
use Rattle.sem_profile.specs.declared.profile.Constraint.TheVariants.{Enforce}
use Rattle.sem_profile.specs.declared.profile.FormatSizes.{FormatSizes}
use Rattle.sem_profile.specs.declared.profile.Format.{Format}
use Rattle.sem_profile.specs.BoundsFaults.{is_wide_by}
use Rattle.sem_profile.specs.BoundsLaws.{AllSound}
use Rattle.sem_profile.specs.Ranging.{format_ranges}
use Rattle.sem_profile.proofs.FaultsFaultless.{faultless}
use Rattle.sem_expr.specs.declared.ranges.Ranges.{Ranges}
use Rattle.sem_profile.specs.Resolved.{IsSound}
use Rattle.cert_rules.specs.declared.slots.Learnt.{Learnt}
use Rattle.cert_rules.specs.declared.slots.Learnt.TheVariants.{Nothing, Length, Whole}
use Rattle.cert_rules.specs.Facts.{inputs}
use Rattle.cert_rules.specs.Rules.{is_attribute, attribute_of, value_given, rule, Congruence, by_equation, by_remainder, by_value, common_rule}
use Rattle.cert_rules.specs.Slots.{has_length, has_bits, knows_all, bits_of, learnt_at}
use Rattle.cert_rules.specs.Views.{view, side_at}
use Rattle.cert_rules.proofs.ViewsAgree.{and_true}
use Rattle.cert_rules.proofs.RulesConstraints.{first_cases, given_cases, remainder_parts}
use Rattle.cert_rules.proofs.ViewsLearning.{solve, solve_remainder}
use Rattle.sem_filling.proofs.FitsSized.{and_then_some, map_some}
use Rattle.cert_types.specs.declared.rule.Rule.{Rule}
use Rattle.sem_profile.specs.declared.profile.Field.{Field}
use Rattle.sem_profile.specs.declared.profile.Sizes.{Sizes}
use Rattle.sem_profile.specs.BoundsFaults.{side_bounds}
use Rattle.sem_filling.specs.declared.filling.Filling.{Filling}
use Rattle.cert_rules.proofs.Numbers.{in_left, in_right}
use Rattle.std.proofs.lemmas.List.{length-replicate}
use Rattle.walk_steps.specs.Partial.{Reached, IsKept, bounds_at}
use Rattle.walk_steps.specs.Sides as sides
use Rattle.walk_steps.specs.declared.level_frame.LevelFrame.{LevelFrame}
use Rattle.walk_steps.specs.Finding.{IsAt, IsReady, Finds, Gains, Learns, AreFound, Shows, IsSolved, IsRemaining, shown_numbers, spot_of}
use Rattle.walk_steps.specs.Methods.{SpelledBy}
use Rattle.walk_steps.proofs.FindingRuled.{constrained, within_slots, ready_parts, learns_value}
use Rattle.walk_steps.proofs.FindingShown.{lies, no_sizes}
use Rattle.walk_steps.proofs.FindingNarrow.{attribute_narrow}
use Rattle.walk_steps.proofs.FindingRemaining.{Remaining, split, remaining_narrow}
use Rattle.walk_steps.proofs.FindingSides.{only_found}

-- ---- the attribute that an equation solves is narrow

solved_narrow : (format : Format) (sizes : FormatSizes) (r : Ranges) → AllSound format sizes r → (i j : ℕ) (k : Constraint) (e : Expr) → slice_get format.constraints j ≡ Some k → value_given i k ≡ Some e →
    is_wide_by measure.Value (bounds_at sizes i Uncompressed) ≡ false
solved_narrow format sizes r sound i j (Enforce (Compare s Equal x y) place) e at h =
    let c = sound.conditions j (Compare s Equal x y) place at in
    let t = attribute_of i Uncompressed measure.Value in
    first_cases (is_attribute t x) (is_attribute t y) y x e (λ z. is_wide_by measure.Value (bounds_at sizes i Uncompressed) ≡ false) h
    (λ b. attribute_narrow i sizes x b (λ n u is. c.narrow n u (in_left (inputs_of x) (inputs_of y) n (input.Attribute u) is)))
    (λ b. attribute_narrow i sizes y b (λ n u is. let p = in_right (inputs_of x) (inputs_of y) n (input.Attribute u) is in c.narrow p.0 u p.1))
solved_narrow format sizes r sound i j _ e at h = absurd (cc)

-- ---- what is solved

known_length : (l : Learnt) → has_length l ≡ true → sides.length_of l ≡ Some (length (bits_of l))
known_length Nothing e = absurd (cc)
known_length (Length n) e = ap Some (sym (length-replicate n false))
known_length (Whole bits) e = refl

module _ (level_frame : LevelFrame) (l : Reached) (i j : ℕ) (len number : Option ℤ) (o : Option (List Bool)) (sound : IsSound level_frame.frame.profile.now) (kept : IsKept l) (at : IsAt level_frame l)
    (len_is : len ≡ option_map pos (sides.length_of (learnt_at l.slots i Uncompressed))) (some : IfSome (slice_get l.format.constraints j) (λ k. IsSolved l i k number)) (only : IsOnly (SpelledBy len number) o)
    (bits : List Bool) (f : Filling) (shows : Shows level_frame l bits f) where
  all_sound : AllSound l.format l.sizes (format_ranges l.sizes kept.placed.whole.parameters)
  all_sound = let p = kept.placed in faultless l.format l.sizes (format_ranges l.sizes p.whole.parameters) (p.are_sizes.fine.accepted p.method l.format p.whole l.sizes p.at)

  -- the bits that spell the number, where the field is narrow
  spelt : (d : Field) → slice_get l.format.fields i ≡ Some d → is_wide_by measure.Value (bounds_at l.sizes i Uncompressed) ≡ false → has_length (learnt_at l.slots i Uncompressed) ≡ true →
      length (side_at (view f) i Uncompressed) ≡ length (bits_of (learnt_at l.slots i Uncompressed)) → number ≡ Some (pos (num (side_at (view f) i Uncompressed))) → AreFound (option_map Whole o) (side_at (view f) i Uncompressed)
  spelt d at_d narrow sized as_long number_is =
      let most = (lies level_frame l sound kept at bits f shows i (within_slots l kept i d at_d) Uncompressed).most in
      let u = side_at (view f) i Uncompressed in
      let narrow_is : nat_lt 64 (bounds_at l.sizes i Uncompressed).most ≡ false = narrow in
      let length_is : len ≡ Some (pos (length u)) = len_is ∙ (ap (option_map pos) (known_length (learnt_at l.slots i Uncompressed) sized) ∙ ap (λ n. Some (pos n)) (sym as_long)) in
      only_found (SpelledBy len number) o u only
      (pos (length u), pos (num u), length_is, number_is, record { length_is = refl; number_is = refl; short = omega (arith, ltb-false 64 (bounds_at l.sizes i Uncompressed).most narrow_is, most) })

  by_equation_finds : IsReady l (option_and_then (λ d. by_equation l.format i j) (slice_get l.format.fields i)) → AreFound (option_map Whole o) (side_at (view f) i Uncompressed)
  by_equation_finds ready =
      let needs = λ (e : Expr). LengthOf Uncompressed i ∷ inputs l.format e in
      let c = constrained l i (value_given i) j needs (BitsOf Uncompressed i ∷ []) ready in
      let b = and_true (has_length (learnt_at l.slots i Uncompressed)) (knows_all l.format l.slots (inputs l.format c.expr)) c.known in
      let solved = subst (λ o. IfSome o (λ k. IsSolved l i k number)) c.constraint_at some in
      let number_is = (subst (λ o. IfSome o (λ e. knows_all l.format l.slots (inputs l.format e) ≡ true → number ≡ val (shown_numbers l) e)) c.given_is solved.by_equation) b.1 in
      let s = solve level_frame.frame.profile.now.methods (bits_at level_frame.frame.context.now) (spot_of level_frame l bits) level_frame.format l.format l.slots f shows i j c.constraint c.expr c.constraint_at c.given_is c.known in
      spelt c.field c.at (solved_narrow l.format l.sizes (format_ranges l.sizes kept.placed.whole.parameters) all_sound i j c.constraint c.expr c.constraint_at c.given_is) b.0 s.as_long (number_is ∙ s.number_is)

  by_remainder_finds : Remaining l i j → AreFound (option_map Whole o) (side_at (view f) i Uncompressed)
  by_remainder_finds r =
      let c = r.parts in
      let b = and_true (has_length (learnt_at l.slots i Uncompressed)) (knows_all l.format l.slots (inputs l.format c.more ++ inputs l.format c.left)) r.known in
      let solved = subst (λ o. IfSome o (λ k. IsSolved l i k number)) r.constraint_at some in
      let left_is = (subst (λ o. IfSome o (λ c. IsRemaining l c number)) r.given_is (solved.by_remainder r.other)) b.1 in
      let parts = remainder_parts l.sizes i r.constraint c r.given_is in
      let most = (lies level_frame l sound kept at bits f shows i (within_slots l kept i r.field r.at) Uncompressed).most in
      let bounds : (bounds_at l.sizes i Uncompressed).most ≡ parts.bounds.uncompressed.most = ap (λ (o : Option Sizes). (side_bounds Uncompressed (unwrap_or o no_sizes)).most) parts.bounds_at in
      let few : length (side_at (view f) i Uncompressed) ≤ parts.bounds.uncompressed.most = omega (arith, most, bounds) in
      let s = solve_remainder level_frame.frame.profile.now.methods (bits_at level_frame.frame.context.now) (spot_of level_frame l bits) level_frame.format l.format l.slots f shows l.sizes parts.bounds i j r.constraint c r.constraint_at r.given_is parts.bounds_at few r.known in
      spelt r.field r.at (remaining_narrow i l.sizes l.format (format_ranges l.sizes kept.placed.whole.parameters) all_sound j r.constraint c r.constraint_at parts.is) b.0 s.as_long
      (left_is s.more s.left s.more_is s.left_is s.above s.below ∙ s.number_is)

pub solve_finds : (level_frame : LevelFrame) (l : Reached) (i j : ℕ) (len number : Option ℤ) (o : Option (List Bool)) → IsSound level_frame.frame.profile.now → IsKept l → IsAt level_frame l → IsReady l (common_rule Two l.sizes l.format (step.Solve i j)) →
    len ≡ option_map pos (sides.length_of (learnt_at l.slots i Uncompressed)) → IfSome (slice_get l.format.constraints j) (λ k. IsSolved l i k number) → IsOnly (SpelledBy len number) o → Finds level_frame l i Uncompressed (option_map Whole o)
solve_finds level_frame l i j len number o sound kept at ready len_is some only bits f shows = elim (split l i j ready) as (λ _. AreFound (option_map Whole o) (side_at (view f) i Uncompressed)) [
  | inl equation ↦ by_equation_finds level_frame l i j len number o sound kept at len_is some only bits f shows equation
  | inr rest ↦ by_remainder_finds level_frame l i j len number o sound kept at len_is some only bits f shows rest
]

-- the field is there
pub solve_within : (l : Reached) (i j : ℕ) → IsKept l → IsReady l (common_rule Two l.sizes l.format (step.Solve i j)) → i < length l.slots
solve_within l i j kept ready = elim (split l i j ready) as (λ _. i < length l.slots) [
  | inl equation ↦ let c = constrained l i (value_given i) j (λ (e : Expr). LengthOf Uncompressed i ∷ inputs l.format e) (BitsOf Uncompressed i ∷ []) equation in within_slots l kept i c.field c.at
  | inr rest ↦ within_slots l kept i rest.field rest.at
]

-- and its value is what the step gives
pub solve_gives : (l : Reached) (i j : ℕ) (r : Rule) → common_rule Two l.sizes l.format (step.Solve i j) ≡ Some r → BitsOf Uncompressed i ∷ [] ≡ r.gives
solve_gives l i j r e =
    let a = and_then_some (λ (d : Field). by_value Two l.sizes l.format i j) (slice_get l.format.fields i) r e in
    given_cases (by_equation l.format i j) (by_remainder l.sizes l.format i j) r (λ (z : Rule). BitsOf Uncompressed i ∷ [] ≡ z.gives) a.2
    (λ z h. let m = map_some (λ (x : Expr). rule (LengthOf Uncompressed i ∷ inputs l.format x) (BitsOf Uncompressed i ∷ [])) _ z h in ap (λ (y : Rule). y.gives) m.2)
    (λ z h. let m = map_some (λ (c : Congruence). rule (LengthOf Uncompressed i ∷ inputs l.format c.more ++ inputs l.format c.left) (BitsOf Uncompressed i ∷ [])) _ z h in ap (λ (y : Rule). y.gives) m.2)

whole_known : (o : Option (List Bool)) (l : Learnt) → option_map Whole o ≡ Some l → has_bits l ≡ true
whole_known (Some bits) l e = let same : Whole bits ≡ l = cc in ap has_bits (sym same)
whole_known None l e = absurd (cc)

pub solve_learns : (level_frame : LevelFrame) (old : Reached) (i j : ℕ) (o : Option (List Bool)) (new : Reached) → IsReady old (common_rule Two old.sizes old.format (step.Solve i j)) → Gains level_frame old i Uncompressed (option_map Whole o) new →
    Learns level_frame (common_rule Two old.sizes old.format (step.Solve i j)) old new
solve_learns level_frame old i j o new ready g =
    let p = ready_parts old (common_rule Two old.sizes old.format (step.Solve i j)) ready in
    learns_value level_frame (common_rule Two old.sizes old.format (step.Solve i j)) old new i Uncompressed (option_map Whole o) p.0 p.1 g (solve_gives old i j p.0 p.1) (whole_known o)
