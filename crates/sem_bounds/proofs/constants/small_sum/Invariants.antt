use Rattle.std.proofs.Common.{ℤ, pos}
use Rattle.sem_bounds.specs.Constants.{IsMore}
use Rattle.sem_bounds.proofs.constants.small_sum.Given as goal

abbrev pub invariant-operand : goal.invariant-operand
invariant-operand l = (v : ℤ) → IsMore l.rest l.number v → IsMore l.fn.expr (pos 0) v
