-- What is learnt of a field whose bits a digit chooses, or that is asked.
use Rattle.std.proofs.Common.{◌≡◌, refl, sym, ◌∙◌, ap, subst, ℕ, ◌<◌, ◌≤◌, ◌^◌, Bool, true, false, List, [], ◌∷◌, length, arith}
use Rattle.std.specs.Prelude.{Option, Some, None, Result, OnOk, IfErr, IsSomeAnd, slice_get, option_map, option_and_then}
use Rattle.std.specs.Option.{SomeIff}
use Rattle.std.proofs.lemmas.Option.{same_Some, none-some, slice_get_within}
use Rattle.sem_bits.specs.Number.{num, enc}
use Rattle.sem_bits.proofs.Numbers.{enc-num, num-enc}
use Rattle.sem_context.specs.Entries.{bits_at}
use Rattle.cert_types.specs.declared.certificate.Step.TheVariants as step
use Rattle.cert_types.specs.declared.rule.Fact.TheVariants.{LengthOf, BitsOf}
use Rattle.cert_types.specs.declared.rule.Rule.{Rule}
use Rattle.sem_expr.specs.declared.expr.Side.TheVariants.{Uncompressed}
use Rattle.sem_profile.specs.declared.profile.Field.{Field}
use Rattle.sem_profile.specs.declared.profile.MethodSizes.{MethodSizes}
use Rattle.sem_filling.specs.declared.filling.AskedValue.{AskedValue}
use Rattle.sem_filling.specs.declared.filling.Filling.{Filling}
use Rattle.sem_filling.proofs.FitsSized.{and_then_some}
use Rattle.cert_rules.specs.declared.slots.Learnt.TheVariants.{Whole}
use Rattle.cert_types.specs.declared.certificate.Version.TheVariants.{Two}
use Rattle.cert_rules.specs.Rules.{rule, when, choice, write_rule}
use Rattle.cert_rules.specs.Views.{view, side_at}
use Rattle.walk_steps.specs.Partial.{Reached, IsKept, Learns}
use Rattle.walk_steps.specs.declared.fault.StepFault.{StepFault}
use Rattle.walk_steps.specs.declared.level_frame.LevelFrame.{LevelFrame}
use Rattle.walk_steps.proofs.FindingGaining.{on_ok}
use Rattle.cert_candidates.specs.Writing.{IsChosen, asked_before}
use Rattle.cert_candidates.proofs.WritingSteps as laws
use Rattle.walk_write.specs.Take.{HasBits}
use Rattle.walk_write.specs.Walking.{LearnsOf, BlamesStep, HasChosen, HasAsked, KnowsChosen, IsReadyToWrite, site_at}
use Rattle.walk_write.proofs.WalkingLearning.{blamed, learns_of, both_known, whole_now}

-- ---- a choice

pub spells : (o : Option (List Bool)) (bits : List Bool) (n digit : ℕ) → o ≡ Some bits → SomeIff o ((n ≤ 64) × (digit < 2 ^ n)) (enc n digit) → bits ≡ enc n digit
spells o bits n digit is all = (subst (λ z. SomeIff z ((n ≤ 64) × (digit < 2 ^ n)) (enc n digit)) is all).1

same_chosen : (n digit : ℕ) (x bits : List Bool) → bits ≡ enc n digit → IsChosen n digit x → x ≡ bits
same_chosen n digit x bits is h = sym (enc-num x) ∙ ((λ j. enc (h.as_long j) (h.number_is j)) ∙ sym is)

module _ (level_frame : LevelFrame) (old new : Reached) (i n digit : ℕ) (bits : List Bool) (is : bits ≡ enc n digit) (r : Result (Unit {0}) StepFault) where
  pub chosen_learns : (table : List MethodSizes) → option_and_then (choice old.format i) (slice_get old.format.fields i) ≡ Some n → OnOk r (Learns old i Uncompressed (Whole bits) new) →
      OnOk r (LearnsOf (HasChosen level_frame old i n digit) (write_rule Two table old.sizes old.format (step.Choose i)) old new)
  chosen_learns table chosen =
      let gives = LengthOf Uncompressed i ∷ BitsOf Uncompressed i ∷ [] in
      on_ok r (Learns old i Uncompressed (Whole bits) new) (LearnsOf (HasChosen level_frame old i n digit) (write_rule Two table old.sizes old.format (step.Choose i)) old new)
      (λ h. learns_of old new i bits h (HasChosen level_frame old i n digit) (λ f theirs. same_chosen n digit (side_at (view f) i Uncompressed) bits is theirs.chosen)
      (write_rule Two table old.sizes old.format (step.Choose i)) (rule [] gives) (ap (option_map (λ (count : ℕ). rule [] gives)) chosen) (both_known old new i bits h))

  pub chosen_known : digit < 2 ^ n → OnOk r (Learns old i Uncompressed (Whole bits) new) → OnOk r (KnowsChosen new.slots i digit)
  chosen_known below =
      on_ok r (Learns old i Uncompressed (Whole bits) new) (KnowsChosen new.slots i digit)
      (λ h. record { bits = bits; known = whole_now old new i bits h; number_is = ap num is ∙ num-enc n digit below })

  pub chosen_blamed : IfErr r (λ e. BlamesStep e (HasBits level_frame old i bits)) → IfErr r (λ e. BlamesStep e (HasChosen level_frame old i n digit))
  chosen_blamed = blamed r (HasBits level_frame old i bits) (HasChosen level_frame old i n digit)
      (λ f m. record { source = m.source; asked = m.asked; here = m.here; bits_are = same_chosen n digit (side_at (view f) i Uncompressed) bits is m.chosen })

-- ---- an asked field

-- a step that asks has a field that is asked
pub record Asking (old : Reached) (i : ℕ) (o : Option Rule) : Type 0 where
  pub field : Field
  pub at : slice_get old.format.fields i ≡ Some field
  pub is_asked : field.declared.asked ≡ true
  pub rule_is : o ≡ Some (rule [] (LengthOf Uncompressed i ∷ BitsOf Uncompressed i ∷ []))

there : (o : Option Rule) (P : Rule → Type 0) → IsSomeAnd o P → (r : Rule) × (o ≡ Some r)
there None P h = absurd h
there (Some r) P h = (r, refl)

where_asked : {A : Type 0} (b : Bool) (x r : A) → when b x ≡ Some r → b ≡ true
where_asked true x r e = refl
where_asked false x r e = absurd (cc)

pub asking : (table : List MethodSizes) (old : Reached) (i : ℕ) → IsReadyToWrite old (write_rule Two table old.sizes old.format (step.Ask i)) → Asking old i (write_rule Two table old.sizes old.format (step.Ask i))
asking table old i ready =
    let given = rule [] (LengthOf Uncompressed i ∷ BitsOf Uncompressed i ∷ []) in
    let of_field = λ (d : Field). when d.declared.asked given in
    let has = there (write_rule Two table old.sizes old.format (step.Ask i)) _ ready in
    let a = and_then_some of_field (slice_get old.format.fields i) has.0 has.1 in
    let is = where_asked a.0.declared.asked given has.0 a.2 in
    record {
      field = a.0;
      at = a.1;
      is_asked = is;
      rule_is = ap (option_and_then of_field) a.1 ∙ ap (λ b. when b given) is;
    }

-- its value is that of each filling that is here
pub value_of : (level_frame : LevelFrame) (old : Reached) (i : ℕ) (o : Option Rule) → Asking old i o → (asked : List AskedValue) (f : Filling) → HasAsked level_frame old asked f →
    (v : AskedValue) × (slice_get asked (asked_before old.format i) ≡ Some v) × (v.bits ≡ side_at (view f) i Uncompressed)
value_of level_frame old i o a asked f h =
    let l = laws.asked level_frame.frame.profile.now.methods (bits_at level_frame.frame.context.now) (site_at level_frame old h.source asked) level_frame.format old.format old.slots f h.here.begins h.here.shows i a.field a.at a.is_asked in
    (record { name = a.field.declared.name; bits = side_at (view f) i Uncompressed }, l, refl)

pub ask_none : (level_frame : LevelFrame) (old : Reached) (i : ℕ) (o : Option Rule) → Asking old i o → (asked : List AskedValue) → slice_get asked (asked_before old.format i) ≡ None → (f : Filling) → HasAsked level_frame old asked f → ⊥
ask_none level_frame old i o a asked none f h = let v = value_of level_frame old i o a asked f h in none-some v.0 (sym none ∙ v.1)

pub ask_within : (old : Reached) (i : ℕ) (o : Option Rule) → IsKept old → Asking old i o → i < length old.slots
ask_within old i o kept a = omega (arith, slice_get_within old.format.fields i a.field a.at, kept.count)

module _ (level_frame : LevelFrame) (old new : Reached) (i : ℕ) (o : Option Rule) (a : Asking old i o) (asked : List AskedValue) (v : AskedValue) (at : slice_get asked (asked_before old.format i) ≡ Some v) (bits : List Bool) (is : bits ≡ v.bits)
    (r : Result (Unit {0}) StepFault) where
  have : (f : Filling) → HasAsked level_frame old asked f → side_at (view f) i Uncompressed ≡ bits
  have f h = let w = value_of level_frame old i o a asked f h in sym w.2 ∙ (ap (λ z. z.bits) (same_Some w.0 v (sym w.1 ∙ at)) ∙ sym is)

  pub ask_learns : OnOk r (Learns old i Uncompressed (Whole bits) new) → OnOk r (LearnsOf (HasAsked level_frame old asked) o old new)
  ask_learns =
      on_ok r (Learns old i Uncompressed (Whole bits) new) (LearnsOf (HasAsked level_frame old asked) o old new)
      (λ h. learns_of old new i bits h (HasAsked level_frame old asked) have o (rule [] (LengthOf Uncompressed i ∷ BitsOf Uncompressed i ∷ [])) a.rule_is (both_known old new i bits h))

  pub ask_blamed : IfErr r (λ e. BlamesStep e (HasBits level_frame old i bits)) → IfErr r (λ e. BlamesStep e (HasAsked level_frame old asked))
  ask_blamed = blamed r (HasBits level_frame old i bits) (HasAsked level_frame old asked) (λ f m. record { source = m.source; asked = asked; here = m.here; bits_are = have f m })
