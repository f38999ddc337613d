use Rattle.std.proofs.Common.{◌≡◌, drop}
use Rattle.sem_profile.specs.Fields as spec
use Rattle.sem_bounds.proofs.fields.bracket_bounds.Given as goal

abbrev pub invariant-loop-length : goal.invariant-loop-length
invariant-loop-length l = spec.enclosing_all l.found (drop l.length-index l.lengths) ≡ spec.bracket_bounds l.lengths
