use Rattle.sem_lint.specs.Marks.{SomeMarked}
use Rattle.sem_lint.proofs.marks.all_marked.Given as goal

abbrev pub invariant-loop-round : goal.invariant-loop-round
invariant-loop-round l = SomeMarked l.profile l.marks l._round
