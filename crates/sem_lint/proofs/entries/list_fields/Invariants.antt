use Rattle.std.proofs.Common.{take}
use Rattle.sem_lint.specs.Entries as spec
use Rattle.sem_lint.specs.Paths as paths
use Rattle.sem_lint.proofs.entries.list_fields.Given as goal

abbrev pub invariant-loop-index : goal.invariant-loop-index
invariant-loop-index l = spec.ListsEach l.path paths.keeps_by (take l.index l.fields) l.fn.left l.left
