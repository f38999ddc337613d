use Rattle.std.proofs.Common.{◌≡◌, ◌++◌}
use Rattle.std.specs.List.{filter}
use Rattle.std.specs.HashMap.{keys}
use Rattle.cert_prove.specs.Known as spec
use Rattle.cert_prove.proofs.sets.note_far.Given as goal

abbrev pub invariant-loop-offset : goal.invariant-loop-offset
invariant-loop-offset l = l.far ++ filter spec.is_far l.offset-iterator ≡ l.fn.far ++ filter spec.is_far (keys l.bits)
