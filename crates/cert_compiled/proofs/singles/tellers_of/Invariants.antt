use Rattle.std.proofs.Common.{◌≡◌, length}
use Rattle.cert_compiled.specs.Single.{AreTellers}
use Rattle.cert_compiled.proofs.singles.tellers_of.Given as goal

abbrev pub invariant-loop-k : goal.invariant-loop-k
invariant-loop-k l = (length l.tellers ≡ l.k) × AreTellers l.methods l.entries l.tellers
