use Rattle.sem_lint.proofs.MarksLifeless.{none_of_own}
use Rattle.sem_lint.proofs.marks.has_own.Goals as goal

pub returns-in-None : goal.returns-in-None
returns-in-None c = none_of_own c.args.profile.now c.args.method c.args.format (rw c.in-None.is at c.in_ok-own_obstacle.ensures)
