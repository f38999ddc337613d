use Rattle.std.proofs.Common.{rules}
use Rattle.sem_expr.proofs.RulesFitting.{rest_held}
use Rattle.sem_expr.proofs.values.remainder.Goals as goal

pub returns : goal.returns
returns c = (rest_held c.args.left c.args.right c.in_ok-whole.whole c.requires.left c.requires.right (search rules) (c.in_ok-whole.ensures {u = tt})).is

pub overflow_mul-result : goal.overflow_mul-result
overflow_mul-result c =
    (rest_held c.args.left c.args.right c.in_ok-whole.whole c.requires.left c.requires.right (search rules) (c.in_ok-whole.ensures {u = tt})).product

pub overflow_sub-result : goal.overflow_sub-result
overflow_sub-result c =
    (rest_held c.args.left c.args.right c.in_ok-whole.whole c.requires.left c.requires.right (search rules) (c.in_ok-whole.ensures {u = tt})).rest
