use Rattle.std.proofs.Common.{◌≡◌, take}
use Rattle.sem_context.proofs.path.are_few_same.Given as goal

abbrev pub invariant-loop-place : goal.invariant-loop-place
invariant-loop-place l = take l.place l.octets ≡ take l.place l.others
