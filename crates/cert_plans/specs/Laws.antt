-- The fault of a plan is one of the certificate's.
use Rattle.std.specs.Prelude.{◌≡◌, ℕ, List, Some, slice_get}
use Rattle.sem_profile.specs.declared.profile.Format.{Format}
use Rattle.sem_profile.specs.declared.profile.Method.{Method}
use Rattle.sem_profile.specs.declared.profile.FormatSizes.{FormatSizes}
use Rattle.sem_profile.specs.declared.profile.MethodSizes.{MethodSizes}
use Rattle.cert_types.specs.declared.certificate.Direction.{Direction}
use Rattle.cert_types.specs.declared.certificate.Plans.{Plans}
use Rattle.cert_types.specs.declared.certificate.MethodPlans.{MethodPlans}
use Rattle.cert_types.specs.Kept.{Certified}
use Rattle.cert_rules.specs.declared.fault.CheckFault.{CheckFault}
use Rattle.cert_rules.specs.declared.fault.CheckFault.TheVariants as check
use Rattle.cert_rules.specs.Plans.{way_of}
use Rattle.cert_rules.specs.Valid.{plans_at}
use Rattle.cert_rules.specs.Refusals.{steps_of, At, IsRefused}
use Rattle.cert_plans.specs.declared.fault.PlanFault.{PlanFault}
use Rattle.cert_plans.specs.declared.fault.PlanFault.TheVariants.{NotEnabled, NeverLearnt}
use Rattle.cert_plans.specs.Faults.{IsPlanFault}

-- the certificate's fault, by that of a plan
abbrev pub refusal_of : ℕ → ℕ → Direction → PlanFault → CheckFault
refusal_of k n direction (NotEnabled step) = check.NotEnabled k n direction step
refusal_of k n direction (NeverLearnt field side) = check.NeverLearnt k n direction field side

-- A fault of the plan of a format is one of the certificate.
abbrev pub PlanFaultsRefuse : Type 0
PlanFaultsRefuse = (methods : List Method) (table : List MethodSizes) (top : ℕ) (cert : Certified) (k n : ℕ) (m : Method) (s : MethodSizes) (entry : MethodPlans) (format : Format) (sizes : FormatSizes) (plans : Plans) (direction : Direction) (fault : PlanFault) →
    At methods table cert.methods k m s entry → slice_get m.formats n ≡ Some format → slice_get s.formats n ≡ Some sizes → plans_at entry n ≡ Some plans → IsPlanFault (way_of cert.version direction table sizes format) (steps_of direction plans) fault →
    IsRefused methods table top cert (refusal_of k n direction fault)
