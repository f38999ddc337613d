use Rattle.std.proofs.Common.{◌≡◌, take}
use Rattle.std.specs.Prelude.{slice_get}
use Rattle.sem_profile.specs.Parameters as spec
use Rattle.sem_profile.specs.Passes.{folded}
use Rattle.sem_bounds.proofs.parameters.with_method.Given as goal

abbrev pub invariant-loop-format : goal.invariant-loop-format
invariant-loop-format l = (l.place ≡ l.format-index)
    × (l.all ≡ folded (λ n o format. spec.with_format l.parameters l.method o format (slice_get l.formats n)) 0 l.fn.found (take l.format-index l.caller.formats))
