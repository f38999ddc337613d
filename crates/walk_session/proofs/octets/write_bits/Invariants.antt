use Rattle.std.proofs.Common.{◌≡◌, length}
use Rattle.walk_session.proofs.Writing.{Written}
use Rattle.walk_session.proofs.octets.write_bits.Given as goal

-- the octets so far, and the room is as long
abbrev pub invariant-loop-place : goal.invariant-loop-place
invariant-loop-place l = Written l.bits l.place l.fn.room l.room × (length l.room ≡ length l.fn.room)
