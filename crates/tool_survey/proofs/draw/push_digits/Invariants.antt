use Rattle.std.specs.Prelude.{◌++◌, string_bytes}
use Rattle.tool_survey.specs.Draw.{number_cell, number_cells}
use Rattle.tool_survey.proofs.DrawLemmas.{Ranges}
use Rattle.tool_survey.proofs.draw.push_digits.Given as goal

abbrev pub invariant-loop-bit : goal.invariant-loop-bit
invariant-loop-bit l = Ranges (number_cell l.number l.start l.width) l.bit l.width (string_bytes l.output) (string_bytes l.fn.output ++ number_cells l.number l.start l.width)
