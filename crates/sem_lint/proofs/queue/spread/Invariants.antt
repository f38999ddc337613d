use Rattle.sem_lint.specs.Entries as entries
use Rattle.sem_lint.specs.NeedsSteps as steps
use Rattle.sem_lint.proofs.queue.spread.Given as goal

abbrev pub invariant-loop : goal.invariant-loop
invariant-loop l = steps.IsBegun l.ground l.known.flags × entries.IsListed l.ground l.known
