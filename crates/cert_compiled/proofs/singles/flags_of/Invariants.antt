use Rattle.std.proofs.Common.{◌≡◌, length}
use Rattle.cert_compiled.specs.Single.{AreTold}
use Rattle.cert_compiled.proofs.singles.flags_of.Given as goal

abbrev pub invariant-loop-index : goal.invariant-loop-index
invariant-loop-index l = (length l.flags ≡ l.index) × AreTold l.tellers l.formats l.plans l.flags
