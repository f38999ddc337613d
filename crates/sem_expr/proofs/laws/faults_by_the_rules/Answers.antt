use Rattle.sem_expr.proofs.ByRules as lemmas
use Rattle.sem_expr.proofs.laws.faults_by_the_rules.Goals as goal

pub returns : goal.returns
returns c = λ r e f. (lemmas.has_fault r e f, lemmas.fault_of r e f)
