use Rattle.std.proofs.Common.{◌≡◌, drop}
use Rattle.sem_profile.specs.Asked as spec
use Rattle.sem_profile.proofs.asked.length_of.Given as goal

abbrev pub invariant-loop-constraint : goal.invariant-loop-constraint
invariant-loop-constraint l = spec.length_of (drop l.constraint-index l.constraints) l.index ≡ spec.length_of l.constraints l.index
