use Rattle.text_methods.proofs.KeptLemmas.{bound_kept}
use Rattle.text_methods.proofs.kept.kept_encoding.Goals as goal

pub returns-in-Bound : goal.returns-in-Bound
returns-in-Bound c = rw c.in-Bound.is (bound_kept c.args.scope.now c.args.methods.now c.in-Bound.bound c.bound_encoding.result c.bound_encoding.ensures)
