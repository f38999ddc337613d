use Rattle.cert_text.specs.Text.{method_lines}
use Rattle.cert_text.proofs.RoomLeft.{LeftBy}
use Rattle.cert_text.proofs.room.left_by_methods.Given as goal

abbrev pub invariant-loop-method : goal.invariant-loop-method
invariant-loop-method l = LeftBy method_lines l.methods l.method-index l.left l.room
