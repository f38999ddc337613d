use Rattle.text_tree.proofs.FileViable.{one_tree}
use Rattle.text_tree.proofs.laws.one_tree.Goals as goal

pub returns : goal.returns
returns c = one_tree
