use Rattle.sem_expr.proofs.RulesFitting.{add_some, subtract_some}
use Rattle.sem_expr.proofs.interval.combine.Goals as goal

pub returns-in-Add : goal.returns-in-Add
returns-in-Add c = add_some c.args.operator c.args.left c.args.right c.in-Add.is c.requires.left_limited c.requires.right_limited

pub returns-in-Subtract : goal.returns-in-Subtract
returns-in-Subtract c = subtract_some c.args.operator c.args.left c.args.right c.in-Subtract.is c.requires.left_limited c.requires.right_limited
