use Rattle.sem_expr.proofs.ByRules as lemmas
use Rattle.sem_expr.proofs.laws.ranges_by_the_rules.Goals as goal

pub returns : goal.returns
returns c = λ r e i. (lemmas.has_range r e i, lemmas.range_of r e i)
