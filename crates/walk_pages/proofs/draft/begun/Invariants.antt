use Rattle.sem_pages.specs.Made.{AreMade}
use Rattle.walk_pages.specs.Drafts.{BeginsWith}
use Rattle.walk_pages.proofs.draft.begun.Given as goal

abbrev pub invariant-loop-i : goal.invariant-loop-i
invariant-loop-i l = AreMade BeginsWith l.constants l.fields.items l.i
