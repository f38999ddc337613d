-- What is told of a format by the plans that are made short.
use Rattle.std.proofs.Common.{◌≡◌, refl, ℕ, List}
use Rattle.std.specs.Prelude.{slice_get, Option, Some, None, option_and_then}
use Rattle.sem_profile.specs.declared.profile.Format.{Format}
use Rattle.sem_profile.specs.declared.profile.Method.{Method}
use Rattle.sem_profile.specs.declared.profile.MethodSizes.{MethodSizes}
use Rattle.sem_filling.specs.Fits.{format_at}
use Rattle.sem_pages.specs.declared.prepared.Prepared.{Prepared}
use Rattle.sem_pages.specs.Prepared.{IsPrepared}
use Rattle.cert_compiled.specs.declared.operations.CompiledPlan.{CompiledPlan}
use Rattle.cert_compiled.specs.Compiled.{AreCompiled}
use Rattle.cert_compiled.proofs.Looking.{some_says}

pub told_by : (methods : List Method) (table : List MethodSizes) (all : List (List CompiledPlan)) (k n : ℕ) (plans : List CompiledPlan) (plan : CompiledPlan) (own : Prepared) (format : Format) → AreCompiled methods table all → slice_get all k ≡ Some plans → slice_get plans n ≡ Some plan
    → plan.prepared ≡ Some own → format_at methods k n ≡ Some format → IsPrepared format own
told_by methods table all k n plans plan own format compiled at_plans at_plan own_is there = by (slice_get methods k) refl there
  where
    by : (o : Option Method) → slice_get methods k ≡ o → option_and_then (λ m. slice_get m.formats n) o ≡ Some format → IsPrepared format own
    by None is at = let wrong : None ≡ Some format = at in absurd cc
    by (Some m) is at = some_says (IsPrepared format) plan.prepared (compiled k m plans is at_plans n format plan at at_plan).0 own own_is
