use Rattle.cert_prove.proofs.TreeRuling as ruling
use Rattle.cert_prove.proofs.tree_laws.ordered_is_faultless.Goals as goal

pub returns-clause-parts : goal.returns-clause-parts
returns-clause-parts c = ruling.ordered_parts

pub returns-clause-faultless : goal.returns-clause-faultless
returns-clause-faultless c = ruling.ordered_is_faultless
