use Rattle.std.proofs.Common.{◌∙◌, sym, ap}
use Rattle.text_statements.specs.Means.{number}
use Rattle.text_statements.proofs.JudgedLeaves.{number_right, unjudged}
use Rattle.text_statements.proofs.types.positive_number.Goals as goal

pub returns-then-has_attributes-clause-means : goal.returns-then-has_attributes-clause-means
returns-then-has_attributes-clause-means c = rw c.positive.ensures number

pub returns-then-has_attributes-clause-right : goal.returns-then-has_attributes-clause-right
returns-then-has_attributes-clause-right c =
    number_right c.args.scope.now c.args.at c.args.n c.positive.result c.positive.ensures (unjudged c.args.scope.now _ (sym c.has_attributes.ensures ∙ c.if-has_attributes.true))

pub returns-clause-means : goal.returns-clause-means
returns-clause-means c = rw (c.in_ok-within.ensures.same, c.positive-2.ensures) number

pub returns-clause-right : goal.returns-clause-right
returns-clause-right c = rw c.in_ok-within.ensures.same (number_right c.args.scope.now c.args.at c.args.n c.positive-2.result c.positive-2.ensures c.in_ok-within.ensures.right)
