use Rattle.std.proofs.Common.{take}
use Rattle.sem_lint.specs.Entries as spec
use Rattle.sem_lint.specs.Paths as paths
use Rattle.sem_lint.proofs.entries.list_formats.Given as goal

abbrev pub invariant-loop-number : goal.invariant-loop-number
invariant-loop-number l = spec.ListsEach l.path paths.keeps_in (take l.number l.formats) l.fn.left l.left
