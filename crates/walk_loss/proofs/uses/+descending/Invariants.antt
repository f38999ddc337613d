use Rattle.sem_expr.specs.Known.{assignment_of}
use Rattle.walk_loss.specs.Uses.{FirstUses}
use Rattle.walk_loss.proofs.uses.+descending.Given as goal

abbrev pub invariant-fields_uses-loop-i : goal.invariant-fields_uses-loop-i
invariant-fields_uses-loop-i l = FirstUses l.profile.methods l.path l.level.format.now l.level.filling.now (assignment_of l.level.known) l.i l.found
