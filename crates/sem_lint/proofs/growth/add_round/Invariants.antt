use Rattle.sem_lint.proofs.NeedsAdding.{RoundSoFar}
use Rattle.sem_lint.proofs.growth.add_round.Given as goal
use Rattle.sem_lint.specs.Entries as entries

abbrev pub invariant-loop-place : goal.invariant-loop-place
invariant-loop-place l = RoundSoFar l.ground l.fn.known.flags l.known.flags l.changes l.place × entries.IsListed l.ground l.known
