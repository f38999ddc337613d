use Rattle.cert_prove.proofs.TreeWorked.{tick_is_ordered, opt_is_ordered, kind_is_ordered}
use Rattle.cert_prove.proofs.tree_laws.worked_trees.Goals as goal

pub returns-clause-tick : goal.returns-clause-tick
returns-clause-tick c = tick_is_ordered

pub returns-clause-opt : goal.returns-clause-opt
returns-clause-opt c = opt_is_ordered

pub returns-clause-kind : goal.returns-clause-kind
returns-clause-kind c = kind_is_ordered
