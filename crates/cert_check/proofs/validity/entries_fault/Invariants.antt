use Rattle.std.proofs.Common.{ℕ, ◌<◌}
use Rattle.cert_check.specs.Right.{IsMethodRight}
use Rattle.cert_check.proofs.validity.entries_fault.Given as goal

abbrev pub invariant-loop-k : goal.invariant-loop-k
invariant-loop-k l = (j : ℕ) → j < l.k → IsMethodRight l.methods l.sizes (record { version = l.version; methods = l.entries }) j
