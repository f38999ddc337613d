use Rattle.sem_graph.proofs.OrderBackward.{by_marks}
use Rattle.sem_graph.proofs.ranks.leads_back.Goals as goal

pub returns-clause-meaning : goal.returns-clause-meaning
returns-clause-meaning c = λ graph each within. by_marks graph _ _ _ _ c.if-callee-caller.false c.is_reached.ensures each within
