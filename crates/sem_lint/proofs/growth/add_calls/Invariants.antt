use Rattle.std.proofs.Common.{take}
use Rattle.sem_lint.specs.NeedsSteps as steps
use Rattle.sem_lint.proofs.growth.add_calls.Given as goal
use Rattle.sem_lint.specs.Entries as entries

abbrev pub invariant-loop-field : goal.invariant-loop-field
invariant-loop-field l = steps.AddsCalls l.ground l.path (take l.field-index l.fields) l.fn.known.flags l.known.flags l.changes × entries.IsListed l.ground l.known
