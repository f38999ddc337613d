use Rattle.cert_prove.proofs.TreeFaultless.{stuck_has_fault}
use Rattle.cert_prove.proofs.TreeWhole as whole
use Rattle.cert_prove.proofs.tree_laws.stuck_has_no_tree.Goals as goal

pub returns-clause-parts : goal.returns-clause-parts
returns-clause-parts c = whole.stuck_has_no_tree

pub returns-clause-faulty : goal.returns-clause-faulty
returns-clause-faulty c = stuck_has_fault
