use Rattle.cert_prove.proofs.TreeRuling as ruling
use Rattle.cert_prove.proofs.tree_laws.rule_is_one.Goals as goal

pub returns : goal.returns
returns c = ruling.rule_is_one
