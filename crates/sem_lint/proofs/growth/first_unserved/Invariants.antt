use Rattle.std.proofs.Common.{take}
use Rattle.sem_lint.specs.NeedsSteps as steps
use Rattle.sem_lint.proofs.growth.first_unserved.Given as goal

abbrev pub invariant-loop-place : goal.invariant-loop-place
invariant-loop-place l = steps.AllServed l.ground l.known.flags l.path (take l.place l.fields)
