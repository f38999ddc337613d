use Rattle.std.proofs.Common.{ℕ, ◌<◌}
use Rattle.sem_lint.specs.Marks.{IsNext}
use Rattle.sem_lint.proofs.marks.next_lifeless.Given as goal

abbrev pub invariant-loop-method : goal.invariant-loop-method
invariant-loop-method l = (k : ℕ) → k < l.method → IsNext l.profile l.own l.marks k → ⊥
