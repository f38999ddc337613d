use Rattle.walk_engine.specs.Reading.{Fitting}
use Rattle.sem_filling.proofs.Each.{Before}
use Rattle.walk_robust.proofs.lacks.lack_of.Given as goal

abbrev pub invariant-loop-i : goal.invariant-loop-i
invariant-loop-i l = Before (λ j h. Fitting l.accepted h.context l.filling) l.others l.i
