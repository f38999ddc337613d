-- The expressions that steps evaluate.
use Rattle.std.proofs.Common.{◌≡◌, refl, subst, ◌∙◌, ℕ, suc, List, [], ◌∷◌, ◌++◌, true}
use Rattle.std.specs.Prelude.{ℤ, Some, slice_get, option_map, option_and_then, ◌&&◌}
use Rattle.cert_types.specs.declared.rule.Fact.{Fact}
use Rattle.sem_expr.specs.declared.expr.Expr.{Expr}
use Rattle.sem_expr.specs.Known.{assignment_of}
use Rattle.sem_expr.specs.Spread.{IsRanged}
use Rattle.sem_expr.specs.Values.{val}
use Rattle.sem_profile.specs.declared.profile.FormatSizes.{FormatSizes}
use Rattle.sem_profile.specs.declared.profile.Format.{Format}
use Rattle.sem_profile.specs.Calling.{ranges_in}
use Rattle.sem_profile.specs.BoundsLaws.{IsSound}
use Rattle.sem_profile.specs.Ranging.{format_ranges}
use Rattle.sem_profile.proofs.FaultsFaultless.{faultless}
use Rattle.sem_filling.specs.Fits.{vals}
use Rattle.cert_rules.specs.declared.slots.Slot.{Slot}
use Rattle.cert_rules.specs.Facts.{inputs, inputs_of_all}
use Rattle.cert_rules.specs.Numbers.{known_of}
use Rattle.cert_rules.specs.Reading.{known_numbers}
use Rattle.cert_rules.specs.Slots.{knows, knows_all}
use Rattle.cert_rules.proofs.ViewsAgree.{and_true}
use Rattle.sem_expr.specs.declared.expr.Side.TheVariants.{Uncompressed}
use Rattle.sem_expr.specs.declared.expr.Measure.TheVariants as measure
use Rattle.cert_rules.specs.Rules.{attribute_of}
use Rattle.cert_rules.proofs.RulesGiven.{given_is_sound, congruent_sound}
use Rattle.cert_rules.proofs.SlotsLying.{all_lie}
use Rattle.cert_rules.proofs.Numbers.{values_known}
use Rattle.cert_rules.proofs.SlotsWithin.{within_is_narrow}
use Rattle.walk_steps.specs.Partial.{IsKept, IsAsked, stands, gives_length, gives_value, gives_addend, gives_left}

pub knows_left : (format : Format) (slots : List Slot) (xs ys : List Fact) → knows_all format slots (xs ++ ys) ≡ true → knows_all format slots xs ≡ true
knows_left format slots [] ys e = refl
knows_left format slots (x ∷ xs) ys e = let b = and_true (knows format slots x) (knows_all format slots (xs ++ ys)) e in λ i. (b.0 ∙ refl) i && knows_left format slots xs ys b.1 i

pub knows_right : (format : Format) (slots : List Slot) (xs ys : List Fact) → knows_all format slots (xs ++ ys) ≡ true → knows_all format slots ys ≡ true
knows_right format slots [] ys e = e
knows_right format slots (x ∷ xs) ys e = let b = and_true (knows format slots x) (knows_all format slots (xs ++ ys)) e in knows_right format slots xs ys b.1

module _ (format : Format) (sizes : FormatSizes) (args : List ℤ) (slots : List Slot) (kept : IsKept (record { format = format; sizes = sizes; args = args; slots = slots })) where
  sound : (e : Expr) → IsAsked format e → IsSound sizes (format_ranges sizes kept.placed.whole.parameters) e
  sound e (stands s) =
      let p = kept.placed in (faultless format sizes (format_ranges sizes p.whole.parameters) (p.are_sizes.fine.accepted p.method format p.whole sizes p.at)).expressions e s
  sound e (gives_length i j side k at given) =
      let p = kept.placed in
      let all = faultless format sizes (format_ranges sizes p.whole.parameters) (p.are_sizes.fine.accepted p.method format p.whole sizes p.at) in
      (given_is_sound format sizes (format_ranges sizes p.whole.parameters) all).lengths i j side k e at given
  sound e (gives_value i j k at given) =
      let p = kept.placed in
      let all = faultless format sizes (format_ranges sizes p.whole.parameters) (p.are_sizes.fine.accepted p.method format p.whole sizes p.at) in
      (given_is_sound format sizes (format_ranges sizes p.whole.parameters) all).values i j k e at given
  sound e (gives_addend i j k c at given same) =
      let p = kept.placed in
      let all = faultless format sizes (format_ranges sizes p.whole.parameters) (p.are_sizes.fine.accepted p.method format p.whole sizes p.at) in
      subst (IsSound sizes (format_ranges sizes p.whole.parameters)) same (congruent_sound format sizes (format_ranges sizes p.whole.parameters) all (attribute_of i Uncompressed measure.Value) j k c at given).more_sound
  sound e (gives_left i j k c at given same) =
      let p = kept.placed in
      let all = faultless format sizes (format_ranges sizes p.whole.parameters) (p.are_sizes.fine.accepted p.method format p.whole sizes p.at) in
      subst (IsSound sizes (format_ranges sizes p.whole.parameters)) same (congruent_sound format sizes (format_ranges sizes p.whole.parameters) all (attribute_of i Uncompressed measure.Value) j k c at given).left_sound

  pub asked_ranged : (e : Expr) → IsAsked format e → IsRanged (assignment_of (known_of format slots args)) e
  asked_ranged e asked =
      let p = kept.placed in record {
        ranges = ranges_in sizes p.whole;
        lie = all_lie p.methods p.table p.are_sizes p.method format p.whole sizes p.at slots args kept.count kept.within p.lie;
        accepted = (sound e asked).accepted;
      }

  pub asked_shown : (e : Expr) → IsAsked format e → knows_all format slots (inputs format e) ≡ true → val (assignment_of (known_of format slots args)) e ≡ val (known_numbers format slots args) e
  asked_shown e asked known =
      let p = kept.placed in
      values_known format slots args e kept.count known (within_is_narrow p.methods p.table p.are_sizes p.method format p.whole sizes p.at slots kept.count kept.within e (sound e asked).narrow)

  -- so have several
  pub all_shown : (es : List Expr) → ((n : ℕ) (e : Expr) → slice_get es n ≡ Some e → IsAsked format e) → knows_all format slots (inputs_of_all format es) ≡ true →
      vals (assignment_of (known_of format slots args)) es ≡ vals (known_numbers format slots args) es
  all_shown [] asked known = refl
  all_shown (e ∷ es) asked known =
      let first = asked_shown e (asked 0 e refl) (knows_left format slots (inputs format e) (inputs_of_all format es) known) in
      let rest = all_shown es (λ n x at. asked (suc n) x at) (knows_right format slots (inputs format e) (inputs_of_all format es) known) in
      λ i. option_and_then (λ v. option_map (λ vs. v ∷ vs) (rest i)) (first i)
