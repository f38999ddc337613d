use Rattle.std.specs.Prelude.{◌++◌, string_bytes}
use Rattle.tool_survey.specs.Draw.{name_cell, name_cells}
use Rattle.tool_survey.proofs.DrawLemmas.{Ranges}
use Rattle.tool_survey.proofs.draw.push_name.Given as goal

abbrev pub invariant-loop-bit : goal.invariant-loop-bit
invariant-loop-bit l = Ranges (name_cell l.name l.start l.width) l.bit l.width (string_bytes l.output) (string_bytes l.fn.output ++ name_cells l.name l.start l.width)
