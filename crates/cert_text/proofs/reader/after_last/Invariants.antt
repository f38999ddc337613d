use Rattle.std.proofs.Common.{◌≡◌, length}
use Rattle.cert_text.proofs.reader.after_last.Given as goal

abbrev pub invariant-loop-line : goal.invariant-loop-line
invariant-loop-line l = l.number ≡ length l.yielded
