use Rattle.std.proofs.Common.{◌≡◌, drop}
use Rattle.walk_engine.specs.Asked as spec
use Rattle.walk_engine.proofs.asked.first_of.Given as goal

abbrev pub invariant-loop-value : goal.invariant-loop-value
invariant-loop-value l = spec.first_of l.name (drop l.value-index l.values) ≡ spec.first_of l.name l.values
