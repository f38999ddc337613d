-- Laws of closures and of plans of the order.
use Rattle.std.specs.Prelude.{◌≡◌, ℕ, ◌<◌, true, List, length, Some, slice_get}
use Rattle.sem_profile.specs.declared.profile.Format.{Format}
use Rattle.sem_profile.specs.declared.profile.Method.{Method}
use Rattle.sem_profile.specs.declared.profile.FormatSizes.{FormatSizes}
use Rattle.sem_profile.specs.declared.profile.MethodSizes.{MethodSizes}
use Rattle.cert_types.specs.declared.certificate.Direction.{Direction}
use Rattle.cert_types.specs.declared.certificate.Step.{Step}
use Rattle.cert_types.specs.declared.rule.Fact.{Fact}
use Rattle.cert_types.specs.Kept.{Certified, step_limit}
use Rattle.cert_rules.specs.Facts.{has}
use Rattle.cert_rules.specs.Plans.{Way, way_of, known_after, all_enabled, IsPlan}
use Rattle.cert_rules.specs.Valid.{Valid}
use Rattle.cert_prove.specs.declared.fault.FieldSide.{FieldSide}
use Rattle.cert_prove.specs.Closure.{Closure}
use Rattle.cert_prove.specs.Ordered.{OrderedPlan, PassesLimit}
use Rattle.cert_prove.specs.Refusals.{NeverLearns}

-- What enabled steps learn lies in the closure.
abbrev pub StaysInClosure : Type 0
StaysInClosure = (way : Way) (steps : List Step) → all_enabled way.rule way.start steps ≡ true → (x : Fact) → has (known_after way.rule way.start steps) x ≡ true → Closure way x

-- Where the closure lacks a side, no list of steps is a plan.
abbrev pub LackingHasNoPlan : Type 0
LackingHasNoPlan = (way : Way) (sides : List FieldSide) → NeverLearns way sides → (steps : List Step) → IsPlan way steps → ⊥

-- So no certificate is valid, where this is so of a format of one of the methods.
abbrev pub LackingIsNotValid : Type 0
LackingIsNotValid = (methods : List Method) (table : List MethodSizes) (top : ℕ) (cert : Certified) (k n : ℕ) (m : Method) (s : MethodSizes) (sizes : FormatSizes) (format : Format) (direction : Direction) (sides : List FieldSide) →
    slice_get methods k ≡ Some m → slice_get table k ≡ Some s → slice_get m.formats n ≡ Some format → slice_get s.formats n ≡ Some sizes → NeverLearns (way_of cert.version direction table sizes format) sides → Valid methods table top cert → ⊥

-- A plan of the order is a plan.
abbrev pub OrderedIsPlan : Type 0
OrderedIsPlan = (way : Way) (order steps : List Step) → OrderedPlan way order steps → IsPlan way steps

-- A way has one plan of the order.
abbrev pub OneOrderedPlan : Type 0
OneOrderedPlan = (way : Way) (order steps others : List Step) → OrderedPlan way order steps → OrderedPlan way order others → steps ≡ others

-- Where the order passes the limit, a plan of the order is above it.
abbrev pub PassingIsAbove : Type 0
PassingIsAbove = (way : Way) (order steps : List Step) → PassesLimit way order → OrderedPlan way order steps → step_limit < length steps
