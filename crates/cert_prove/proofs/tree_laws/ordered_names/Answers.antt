use Rattle.cert_prove.proofs.TreeNaming as naming
use Rattle.cert_prove.proofs.tree_laws.ordered_names.Goals as goal

pub returns-clause-names : goal.returns-clause-names
returns-clause-names c = naming.ordered_names

pub returns-clause-versed : goal.returns-clause-versed
returns-clause-versed c = naming.ordered_is_versed
