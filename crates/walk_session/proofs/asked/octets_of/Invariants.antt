use Rattle.walk_session.proofs.Values.{SpelledSoFar}
use Rattle.walk_session.proofs.asked.octets_of.Given as goal

abbrev pub invariant-loop-value : goal.invariant-loop-value
invariant-loop-value l = SpelledSoFar l.values l.value-index l.octets.items
