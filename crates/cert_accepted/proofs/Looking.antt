-- What a look goes over, of what is accepted.
use Rattle.std.proofs.Common.{◌≡◌, refl, ℕ, List}
use Rattle.std.specs.Prelude.{slice_get, Option, Some, None, IfSome, option_and_then}
use Rattle.sem_profile.specs.declared.profile.Method.{Method}
use Rattle.sem_filling.specs.Bounded.{sizes_at}
use Rattle.cert_compiled.specs.declared.looks.Looks.{Looks}
use Rattle.cert_compiled.specs.declared.operations.CompiledPlan.{CompiledPlan}
use Rattle.cert_compiled.specs.Compiled.{AreCompiled, HasLooks, IsLookedBy}
use Rattle.cert_compiled.proofs.Looking.{some_says}
use Rattle.cert_accepted.specs.Accepted.{Accepting}
use Rattle.cert_accepted.specs.Standing.{AreLooksOf}

looked_by : (a : Accepting) (all : List (List CompiledPlan)) (k n : ℕ) (l : Looks) → AreCompiled a.profile.methods a.profile.sizes all → HasLooks all k n l → AreLooksOf a k n l
looked_by a all k n l compiled has format there = by (slice_get a.profile.methods k) refl there
  where
    by : (o : Option Method) → slice_get a.profile.methods k ≡ o → option_and_then (λ m. slice_get m.formats n) o ≡ Some format → IsLookedBy format (sizes_at a.profile.sizes k n) l
    by None is at = let wrong : None ≡ Some format = at in absurd cc
    by (Some m) is at = some_says (IsLookedBy format (sizes_at a.profile.sizes k n)) has.plan.looks (compiled k m has.plans is has.plans_are n format has.plan at has.plan_is).1 l has.looks_are

pub looks_by : {B : Type 0} (a : Accepting) (all : List (List CompiledPlan)) (k n : ℕ) (o : Option B) (now : B → Looks) → AreCompiled a.profile.methods a.profile.sizes all → IfSome o (λ l. HasLooks all k n (now l)) → IfSome o (λ l. AreLooksOf a k n (now l))
looks_by a all k n None now compiled has = tt
looks_by a all k n (Some l) now compiled has = looked_by a all k n (now l) compiled has
