use Rattle.std.proofs.Common.{take}
use Rattle.text_statements.specs.Constants.{constants_in, AreValues}
use Rattle.text_statements.proofs.table.values_in.Given as goal

abbrev pub invariant-loop-part : goal.invariant-loop-part
invariant-loop-part l = AreValues l.text l.names (constants_in (take l.part-index l.parts)) l.found
