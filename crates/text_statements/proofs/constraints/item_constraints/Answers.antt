use Rattle.std.proofs.lemmas.Result.{IfOk-weaker}
use Rattle.text_statements.specs.Constraints.{field, bound, enforced}
use Rattle.text_statements.proofs.constraints.item_constraints.Goals as goal

pub returns-in-Field-clause-means : goal.returns-in-Field-clause-means
returns-in-Field-clause-means c = rw c.in-Field.is (IfOk-weaker c.optional_bracket.result _ _ (λ cs means. field means) c.optional_bracket.ensures.means)

pub returns-in-Bound-clause-means : goal.returns-in-Bound-clause-means
returns-in-Bound-clause-means c = rw c.in-Bound.is (IfOk-weaker c.optional_bracket-in-Bound.result _ _ (λ cs means. bound means) c.optional_bracket-in-Bound.ensures.means)

pub returns-in_ok-conjuncts-in-Enforce-clause-means : goal.returns-in_ok-conjuncts-in-Enforce-clause-means
returns-in_ok-conjuncts-in-Enforce-clause-means c = rw c.in-Enforce.is (enforced c.in_ok-conjuncts-in-Enforce.ensures.means)
