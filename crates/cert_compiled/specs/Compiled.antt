-- What plans that are made short keep of the formats that they are of.
use Rattle.std.specs.Prelude.{◌≡◌, ℕ, List, Option, Some, IfSome, slice_get, option_and_then}
use Rattle.sem_profile.specs.declared.profile.Format.{Format}
use Rattle.sem_profile.specs.declared.profile.FormatSizes.{FormatSizes}
use Rattle.sem_profile.specs.declared.profile.Method.{Method}
use Rattle.sem_profile.specs.declared.profile.MethodSizes.{MethodSizes}
use Rattle.sem_pages.specs.Prepared.{IsPrepared}
use Rattle.cert_compiled.specs.declared.looks.Looks.{Looks}
use Rattle.cert_compiled.specs.declared.operations.CompiledPlan.{CompiledPlan}
use Rattle.cert_compiled.specs.Offsets.{AreOffsets}

-- what a look goes over has the offsets of the format, whose bounds are these
pub record IsLookedBy (format : Format) (bounds : Option FormatSizes) (l : Looks) : Type 0 where
  pub sizes : FormatSizes
  pub sizes_are : bounds ≡ Some sizes
  pub right : AreOffsets format.fields sizes.fields l.offsets

-- what is prepared of the format, and what a look goes over, if they are there
abbrev pub IsPlanOf : Format → Option FormatSizes → CompiledPlan → Type 0
IsPlanOf format bounds plan = IfSome plan.prepared (IsPrepared format) × IfSome plan.looks (IsLookedBy format bounds)

-- each plan is of the format at its place, whose bounds are those of the method
abbrev pub ArePlansOf : List Format → Option MethodSizes → List CompiledPlan → Type 0
ArePlansOf formats bounds plans =
    (n : ℕ) (format : Format) (plan : CompiledPlan) → slice_get formats n ≡ Some format → slice_get plans n ≡ Some plan → IsPlanOf format (option_and_then (λ s. slice_get s.formats n) bounds) plan

-- the same of each method
abbrev pub AreCompiled : List Method → List MethodSizes → List (List CompiledPlan) → Type 0
AreCompiled methods table all = (k : ℕ) (method : Method) (plans : List CompiledPlan) → slice_get methods k ≡ Some method → slice_get all k ≡ Some plans → ArePlansOf method.formats (slice_get table k) plans

-- the plan of this format of a method, both by their indices, has these looks
pub record HasLooks (all : List (List CompiledPlan)) (k n : ℕ) (l : Looks) : Type 0 where
  pub plans : List CompiledPlan
  pub plans_are : slice_get all k ≡ Some plans
  pub plan : CompiledPlan
  pub plan_is : slice_get plans n ≡ Some plan
  pub looks_are : plan.looks ≡ Some l
