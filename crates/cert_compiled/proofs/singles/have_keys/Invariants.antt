use Rattle.cert_compiled.proofs.Telling.{KeysSoFar}
use Rattle.cert_compiled.proofs.singles.have_keys.Given as goal

abbrev pub invariant-loop-index : goal.invariant-loop-index
invariant-loop-index l = KeysSoFar l.parameter l.formats l.keys.items l.index
