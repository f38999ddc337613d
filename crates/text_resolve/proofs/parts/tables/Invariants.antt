use Rattle.std.proofs.Common.{take}
use Rattle.text_resolve.specs.Twice.{AreTables}
use Rattle.text_resolve.proofs.parts.tables.Given as goal

abbrev pub invariant-loop-part : goal.invariant-loop-part
invariant-loop-part l = AreTables l.text (take l.part-index l.parts) l.constants l.methods
