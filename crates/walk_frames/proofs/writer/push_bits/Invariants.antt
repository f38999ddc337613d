use Rattle.std.proofs.Common.{◌≤◌, ◌+◌, ◌/◌, length, vec_len, vec_capacity}
use Rattle.walk_line.proofs.SenderPushing.{Pushed}
use Rattle.walk_frames.proofs.writer.push_bits.Given as goal

-- the octets so far, and there is room for the others
abbrev pub invariant-loop-place : goal.invariant-loop-place
invariant-loop-place l = Pushed l.bits l.place l.fn.out.items l.out.items × (vec_len l.out + (length l.bits + 7) / 8 ≤ vec_capacity l.out + l.place)
