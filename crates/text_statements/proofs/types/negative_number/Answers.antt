use Rattle.std.proofs.Common.{◌∙◌, sym, ap}
use Rattle.text_statements.specs.Means.{negative}
use Rattle.text_statements.proofs.JudgedLeaves.{negative_right}
use Rattle.text_statements.proofs.types.negative_number.Goals as goal

pub returns-clause-means : goal.returns-clause-means
returns-clause-means c = rw (c.in_ok-within.ensures.same, c.negative.ensures) negative

pub returns-clause-right : goal.returns-clause-right
returns-clause-right c = rw c.in_ok-within.ensures.same (negative_right c.args.scope.now c.args.at c.args.n c.negative.result c.negative.ensures c.in_ok-within.ensures.right)
