use Rattle.cert_candidates.proofs.Packing.{starts, passes, found, nowhere}
use Rattle.cert_candidates.proofs.laws.packing.Goals as goal

pub returns : goal.returns
returns c = record { starts = starts; passes = passes; found = found; none = nowhere }
