use Rattle.sem_context.specs.Entries.{bits_at}
use Rattle.sem_expr.specs.Known.{assignment_of}
use Rattle.sem_filling.specs.Ready.{FieldFitsAt}
use Rattle.sem_filling.proofs.Each.{Before}
use Rattle.sem_holds.proofs.levels.+holding.Given as goal

abbrev pub invariant-fields_hold-loop-i : goal.invariant-fields_hold-loop-i
invariant-fields_hold-loop-i l =
    Before (FieldFitsAt l.frame.profile.now.methods (bits_at l.frame.context.now) l.frame.path.now l.level.format.now l.level.filling.now (assignment_of l.level.known)) l.filled l.i
