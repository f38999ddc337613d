use Rattle.std.proofs.Common.{◌≡◌, drop}
use Rattle.walk_engine.specs.Asked as spec
use Rattle.walk_engine.proofs.asked.first_odd.Given as goal

abbrev pub invariant-loop-i : goal.invariant-loop-i
invariant-loop-i l = spec.first_odd (drop l.i l.fields) (drop l.i l.values) ≡ spec.first_odd l.fields l.values
