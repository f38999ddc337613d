use Rattle.std.proofs.Common.{rules}
use Rattle.sem_expr.proofs.RulesFitting.{power_none}
use Rattle.sem_expr.proofs.interval.power.Goals as goal

pub returns-in_err-to : goal.returns-in_err-to
returns-in_err-to c =
    power_none c.from_residual-in_err-to.result c.args.left c.args.right c.exponent-else-left-eq0.result (search rules) (search rules) c.if-left-eq0.false
    c.exponent-else-left-eq0.ensures (c.in_err-to.ensures {u = tt}) c.from_residual-in_err-to.ensures
