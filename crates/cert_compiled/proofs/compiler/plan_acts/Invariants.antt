use Rattle.std.proofs.Common.{◌≡◌, length}
use Rattle.cert_compiled.specs.Compiled.{AreCompiled}
use Rattle.cert_compiled.proofs.compiler.plan_acts.Given as goal

abbrev pub invariant-loop-k : goal.invariant-loop-k
invariant-loop-k l = (length l.all ≡ l.k) × AreCompiled l.methods l.table l.all
