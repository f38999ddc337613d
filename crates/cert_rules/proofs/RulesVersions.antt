-- What a certificate of version one has, one of version two has.
use Rattle.std.proofs.Common.{◌≡◌, refl, sym, ◌∙◌, ap, subst, ℕ, Bool, true, false, List, [], ◌∷◌, ◌++◌}
use Rattle.std.specs.Prelude.{Option, Some, None, ◌&&◌, slice_get, option_and_then}
use Rattle.sem_profile.specs.declared.profile.FormatSizes.{FormatSizes}
use Rattle.sem_profile.specs.declared.profile.MethodSizes.{MethodSizes}
use Rattle.sem_profile.specs.declared.profile.Format.{Format}
use Rattle.cert_types.specs.declared.certificate.Version.{Version}
use Rattle.cert_types.specs.declared.certificate.Version.TheVariants.{One, Two}
use Rattle.cert_types.specs.declared.certificate.Direction.{Direction}
use Rattle.cert_types.specs.declared.certificate.Direction.TheVariants.{Read, Write}
use Rattle.cert_types.specs.declared.certificate.Step.{Step}
use Rattle.cert_types.specs.declared.certificate.Step.TheVariants.{Take, Call, LibraryUp, LibraryDown, MethodLength, ConstraintLength, Solve, Choose, Ask}
use Rattle.cert_types.specs.declared.rule.Fact.{Fact}
use Rattle.cert_types.specs.declared.rule.Rule.{Rule}
use Rattle.sem_filling.proofs.FitsSized.{and_then_some}
use Rattle.cert_rules.specs.Rules.{first_or, from_two, by_equation, by_remainder, by_value, common_rule, read_rule, write_rule}
use Rattle.cert_rules.specs.Plans.{rule_of, enabled, learnt, known_after, all_enabled, known_at_start, goals_of, is_complete, way_of, IsPlan, PlansGoOn, RulesGoOn}
use Rattle.cert_rules.proofs.ViewsAgree.{and_true}

still_first : (version : Version) (o q : Option Rule) (r : Rule) → first_or o (from_two version q) ≡ Some r → first_or o (from_two Two q) ≡ Some r
still_first Two o q r e = e
still_first One (Some x) q r e = e
still_first One None q r e = absurd (cc)

module _ (version : Version) (sizes : FormatSizes) (format : Format) where
  common_on : (step : Step) (r : Rule) → common_rule version sizes format step ≡ Some r → common_rule Two sizes format step ≡ Some r
  common_on (Solve i n) r e =
      let d = and_then_some (λ d. by_value version sizes format i n) (slice_get format.fields i) r e in
      ap (option_and_then (λ d. by_value Two sizes format i n)) d.1 ∙ still_first version (by_equation format i n) (by_remainder sizes format i n) r d.2
  common_on (LibraryUp i) r e = e
  common_on (LibraryDown i) r e = e
  common_on (MethodLength i side) r e = e
  common_on (ConstraintLength i side n) r e = e
  common_on (Take i) r e = e
  common_on (Call i) r e = e
  common_on (Choose i) r e = e
  common_on (Ask i) r e = e

  read_on : (step : Step) (r : Rule) → read_rule version sizes format step ≡ Some r → read_rule Two sizes format step ≡ Some r
  read_on (Take i) r e = e
  read_on (Call i) r e = e
  read_on (LibraryUp i) r e = e
  read_on (LibraryDown i) r e = e
  read_on (MethodLength i side) r e = e
  read_on (ConstraintLength i side n) r e = e
  read_on (Solve i n) r e = common_on (Solve i n) r e
  read_on (Choose i) r e = e
  read_on (Ask i) r e = e

  write_on : (table : List MethodSizes) (step : Step) (r : Rule) → write_rule version table sizes format step ≡ Some r → write_rule Two table sizes format step ≡ Some r
  write_on table (Take i) r e = e
  write_on table (Call i) r e = e
  write_on table (LibraryUp i) r e = e
  write_on table (LibraryDown i) r e = e
  write_on table (MethodLength i side) r e = e
  write_on table (ConstraintLength i side n) r e = e
  write_on table (Solve i n) r e = common_on (Solve i n) r e
  write_on table (Choose i) r e = e
  write_on table (Ask i) r e = e

pub rules_go_on : RulesGoOn
rules_go_on version Read table sizes format step r e = read_on version sizes format step r e
rules_go_on version Write table sizes format step r e = write_on version sizes format table step r e

-- rules that have all that others have
module _ (old new : Step → Option Rule) (on : (step : Step) (r : Rule) → old step ≡ Some r → new step ≡ Some r) where
  one_on : (known : List Fact) (step : Step) (o : Option Rule) → old step ≡ o → enabled known o ≡ true → new step ≡ o
  one_on known step (Some r) is e = on step r is
  one_on known step None is e = absurd (cc)

  record MayGoOn (known : List Fact) (steps : List Step) : Type 0 where
    goes : all_enabled new known steps ≡ true
    same : known_after new known steps ≡ known_after old known steps

  goes_on : (steps : List Step) (known : List Fact) → all_enabled old known steps ≡ true → MayGoOn known steps
  goes_on [] known e = record { goes = refl; same = refl }
  goes_on (step ∷ steps) known e =
      let b = and_true (enabled known (old step)) (all_enabled old (learnt (old step) ++ known) steps) e in
      let rule : new step ≡ old step = one_on known step (old step) refl b.0 in
      let rest = goes_on steps (learnt (old step) ++ known) b.1 in
      record {
        goes = (λ i. enabled known (rule i) && all_enabled new (learnt (rule i) ++ known) steps) ∙ ((λ i. b.0 i && all_enabled new (learnt (old step) ++ known) steps) ∙ rest.goes);
        same = (λ i. known_after new (learnt (rule i) ++ known) steps) ∙ rest.same;
      }

pub plans_go_on : PlansGoOn
plans_go_on version direction table sizes format steps plan =
    let on = goes_on (rule_of version direction table sizes format) (rule_of Two direction table sizes format) (λ step r e. rules_go_on version direction table sizes format step r e) steps (known_at_start format) plan.enabled in
    record { enabled = on.goes; complete = ap (is_complete (goals_of direction format)) on.same ∙ plan.complete }
