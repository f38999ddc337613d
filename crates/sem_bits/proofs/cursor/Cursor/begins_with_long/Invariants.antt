use Rattle.std.proofs.Common.{◌≡◌, ◌-◌, ◌≤◌, length, take}
use Rattle.sem_bits.proofs.cursor.Cursor.begins_with_long.Given as goal

abbrev pub invariant-loop-done : goal.invariant-loop-done
invariant-loop-done l = (l.done ≤ length l.bits) × (take l.done l.fn.self.left ≡ take l.done l.bits) × (l.other.left ≡ l.bits)

abbrev pub decreases-loop-done : goal.decreases-loop-done
decreases-loop-done l = length l.bits - l.done
