use Rattle.cert_trees.proofs.Counting.{capped_tells, each_is_counted}
use Rattle.cert_trees.proofs.laws.capped_counts.Goals as goal

pub returns : goal.returns
returns c = record { tells = capped_tells; each = each_is_counted }
