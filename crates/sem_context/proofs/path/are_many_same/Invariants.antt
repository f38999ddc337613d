use Rattle.std.proofs.Common.{◌≡◌, ◌↔◌, length}
use Rattle.sem_context.proofs.path.are_many_same.Given as goal

abbrev pub invariant-loop-eight : goal.invariant-loop-eight
invariant-loop-eight l = (l.octets ≡ l.others) ↔ (l.rest ≡ l.other)

abbrev pub decreases-loop-eight : goal.decreases-loop-eight
decreases-loop-eight l = length l.rest
