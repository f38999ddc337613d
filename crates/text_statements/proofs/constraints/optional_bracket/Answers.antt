use Rattle.std.proofs.lemmas.Result.{IfOk-weaker}
use Rattle.text_statements.specs.Constraints.{no_bracket, with_bracket}
use Rattle.text_statements.proofs.constraints.optional_bracket.Goals as goal

pub returns-in-None-clause-means : goal.returns-in-None-clause-means
returns-in-None-clause-means c = rw c.in-None.is no_bracket

pub returns-in-Some-clause-means : goal.returns-in-Some-clause-means
returns-in-Some-clause-means c = rw c.in-Some.is (IfOk-weaker c.bracket_constraint.result _ _ (λ cs means. with_bracket means) c.bracket_constraint.ensures.means)
