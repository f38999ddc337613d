use Rattle.cert_rules.proofs.ViewsLearning.{tree_leads}
use Rattle.cert_rules.proofs.Trees.{cut_off_below}
use Rattle.cert_rules.proofs.laws.tree_leads.Goals as goal

pub returns : goal.returns
returns c = record { leads = tree_leads; below = cut_off_below }
