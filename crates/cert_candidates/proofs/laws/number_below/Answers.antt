use Rattle.cert_candidates.proofs.CodesBounds.{below}
use Rattle.cert_candidates.proofs.laws.number_below.Goals as goal

pub returns : goal.returns
returns c = λ methods cert counts are k n f h at. below methods cert counts are h n at
