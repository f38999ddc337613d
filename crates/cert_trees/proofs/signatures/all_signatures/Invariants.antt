use Rattle.cert_trees.proofs.SignaturesPassing.{ToldTo}
use Rattle.cert_trees.proofs.signatures.all_signatures.Given as goal

abbrev pub invariant-loop-place : goal.invariant-loop-place
invariant-loop-place l = ToldTo l.tolds.items l.formats l.sizes l.place
