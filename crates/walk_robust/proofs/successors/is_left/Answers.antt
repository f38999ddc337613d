use Rattle.sem_context.specs.Placing.{shown}
use Rattle.walk_robust.proofs.Comings.{some_at}
use Rattle.walk_robust.proofs.successors.is_left.Goals as goal

pub returns-then-is_at : goal.returns-then-is_at
returns-then-is_at c = ((λ t. some_at (shown c.args.left.now) c.args.place c.args.path.now (c.is_at.ensures.0 c.if-is_at.true)), (λ some. c.if-is_at.true))
