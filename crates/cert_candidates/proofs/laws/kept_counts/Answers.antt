use Rattle.cert_candidates.proofs.CodesFew.{kept_are_counts}
use Rattle.cert_candidates.proofs.CodesKept.{spans_are_kept, spans_add_up}
use Rattle.cert_candidates.proofs.laws.kept_counts.Goals as goal

pub returns : goal.returns
returns c = record { counts = kept_are_counts; formats = spans_are_kept; sums = spans_add_up }
