use Rattle.std.proofs.Common.{◌≡◌, length}
use Rattle.cert_compiled.specs.Single.{AreLinesTold}
use Rattle.cert_compiled.proofs.singles.singles_by.Given as goal

abbrev pub invariant-loop-k : goal.invariant-loop-k
invariant-loop-k l = (length l.flags ≡ l.k) × AreLinesTold l.tellers l.methods l.entries l.flags
