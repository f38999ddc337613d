use Rattle.sem_expr.specs.Bounds.{bounding_of}
use Rattle.text_statements.proofs.ConstantsEvaluated.{may_evaluate}
use Rattle.text_statements.proofs.constant.evaluate.Goals as goal

pub value-requires : goal.value-requires
value-requires c = record { ready = tt; ranged = rw c.nothing.ensures (may_evaluate (bounding_of c.anything.result) c.args.expr.now c.in-Ok.field-0 c.in-Ok.ensures.outcome) }
