use Rattle.std.specs.Prelude.{string_bytes, map}
use Rattle.cert_text.specs.Text.{step_line, spelled}
use Rattle.cert_text.proofs.TextLines.{GoesLine}
use Rattle.cert_text.proofs.printer.steps_text.Given as goal

abbrev pub invariant-loop-step : goal.invariant-loop-step
invariant-loop-step l = GoesLine (step_line l.fields) l.steps l.step-index (string_bytes l.output) (spelled (map (step_line l.fields) l.steps))
