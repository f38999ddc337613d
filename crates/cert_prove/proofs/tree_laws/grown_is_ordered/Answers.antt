use Rattle.cert_prove.proofs.TreeGrowth as growth
use Rattle.cert_prove.proofs.tree_laws.grown_is_ordered.Goals as goal

pub returns : goal.returns
returns c = growth.grown_is_ordered
