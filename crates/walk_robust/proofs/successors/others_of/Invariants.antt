use Rattle.sem_filling.specs.Entries.{next}
use Rattle.walk_robust.proofs.Comings.{ComeTo}
use Rattle.walk_robust.proofs.successors.others_of.Given as goal

abbrev pub invariant-loop-i : goal.invariant-loop-i
invariant-loop-i l = ComeTo (next l.own l.filling) l.held l.filling l.i l.found.items
