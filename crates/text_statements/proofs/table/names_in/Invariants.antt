use Rattle.std.proofs.Common.{◌≡◌, take}
use Rattle.text_statements.specs.Constants.{constant_names}
use Rattle.text_statements.proofs.table.names_in.Given as goal

abbrev pub invariant-loop-part : goal.invariant-loop-part
invariant-loop-part l = l.names ≡ constant_names l.text (take l.part-index l.parts)
