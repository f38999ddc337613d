use Rattle.std.proofs.Common.{◌≡◌, drop, fold}
use Rattle.sem_profile.specs.Precedence.{earlier, earliest}
use Rattle.text_resolve.specs.ProfileLimits.{long_format}
use Rattle.text_resolve.proofs.profile_limits.first_long.Given as goal

abbrev pub invariant-loop-method : goal.invariant-loop-method
invariant-loop-method l = fold (λ found m. earlier found (long_format m)) l.found (drop l.method-index l.methods) ≡ earliest long_format l.methods
