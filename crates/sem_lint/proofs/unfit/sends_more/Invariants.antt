use Rattle.std.proofs.Common.{ℕ, ◌<◌}
use Rattle.sem_lint.specs.Obstacles as spec
use Rattle.sem_lint.proofs.unfit.sends_more.Given as goal

abbrev pub invariant-loop-field : goal.invariant-loop-field
invariant-loop-field l = (i : ℕ) → i < l.field → spec.SendsMore l.fields l.sizes i → ⊥
