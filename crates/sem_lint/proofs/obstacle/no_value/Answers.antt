use Rattle.sem_expr.specs.Bounds.{bounding_of}
use Rattle.sem_lint.proofs.ObstaclesStanding.{none_else}
use Rattle.sem_lint.proofs.obstacle.no_value.Goals as goal

pub returns-in-None : goal.returns-in-None
returns-in-None c = none_else c.args.fields.now c.args.constraints.now (bounding_of c.args.ranges.now) c.undefined_condition.result c.undefined_condition.ensures c.in-None.ensures
