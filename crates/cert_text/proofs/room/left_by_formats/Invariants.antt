use Rattle.cert_text.specs.Text.{format_lines}
use Rattle.cert_text.proofs.RoomLeft.{LeftBy}
use Rattle.cert_text.proofs.room.left_by_formats.Given as goal

abbrev pub invariant-loop-format : goal.invariant-loop-format
invariant-loop-format l = LeftBy format_lines l.formats l.format-index l.left l.room
