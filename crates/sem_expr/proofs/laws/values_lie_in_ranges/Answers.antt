use Rattle.sem_expr.proofs.RangedLie as lemmas
use Rattle.sem_expr.proofs.laws.values_lie_in_ranges.Goals as goal

pub returns : goal.returns
returns c = λ a r e i v lie. lemmas.lies a r lie e i v
