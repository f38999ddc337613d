use Rattle.cert_plans.specs.Knowing.{shows}
use Rattle.cert_prove.specs.Searching.{AreLearntTo}
use Rattle.cert_prove.proofs.gaps.first_missing.Given as goal

abbrev pub invariant-loop-index : goal.invariant-loop-index
invariant-loop-index l = AreLearntTo l.direction l.format (shows l.known) l.index
