use Rattle.sem_reasons.specs.Looks.{SoFar}
use Rattle.sem_reasons.proofs.observation.sights.Given as goal

abbrev pub invariant-loop-index : goal.invariant-loop-index
invariant-loop-index l = SoFar l.look l.found l.index
