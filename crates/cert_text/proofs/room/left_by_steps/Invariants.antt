use Rattle.cert_text.specs.Text.{step_line}
use Rattle.cert_text.proofs.RoomLeft.{LeftLine}
use Rattle.cert_text.proofs.room.left_by_steps.Given as goal

abbrev pub invariant-loop-step : goal.invariant-loop-step
invariant-loop-step l = LeftLine (step_line l.fields) l.steps l.step-index l.left l.room
