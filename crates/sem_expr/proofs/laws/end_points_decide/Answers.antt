use Rattle.sem_expr.proofs.RulesEndPoints as lemmas
use Rattle.sem_expr.proofs.laws.end_points_decide.Goals as goal

pub returns : goal.returns
returns c = lemmas.end_points_decide
