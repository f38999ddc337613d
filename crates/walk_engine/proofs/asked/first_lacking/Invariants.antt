use Rattle.std.proofs.Common.{◌≡◌, drop}
use Rattle.walk_engine.specs.Asked as spec
use Rattle.walk_engine.proofs.asked.first_lacking.Given as goal

abbrev pub invariant-loop-field : goal.invariant-loop-field
invariant-loop-field l = spec.first_lacking (drop l.field-index l.fields) l.values ≡ spec.first_lacking l.fields l.values
