use Rattle.walk_session.proofs.Values.{SoFar}
use Rattle.walk_session.proofs.asked.values_of.Given as goal

abbrev pub invariant-loop-field : goal.invariant-loop-field
invariant-loop-field l = SoFar l.fields l.octets l.field-index l.place l.values
