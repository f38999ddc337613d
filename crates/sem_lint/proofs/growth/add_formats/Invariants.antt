use Rattle.sem_lint.proofs.NeedsAdding.{FormatsSoFar}
use Rattle.sem_lint.proofs.growth.add_formats.Given as goal
use Rattle.sem_lint.specs.Entries as entries

abbrev pub invariant-loop-number : goal.invariant-loop-number
invariant-loop-number l = FormatsSoFar l.ground l.fn.known.flags l.known.flags l.changes l.fn.place l.site l.formats l.number × entries.IsListed l.ground l.known
