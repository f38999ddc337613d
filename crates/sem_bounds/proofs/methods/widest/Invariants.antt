use Rattle.std.proofs.Common.{ℕ, ◌<◌}
use Rattle.sem_profile.specs.Precedence.{Judged}
use Rattle.sem_profile.specs.Methods.{IsShortAt, IsWide}
use Rattle.sem_bounds.proofs.methods.widest.Given as goal

abbrev pub invariant-loop-index : goal.invariant-loop-index
invariant-loop-index l = Judged ((k : ℕ) → k < l.index → IsShortAt l.methods l.table k) (IsWide l.methods l.table) l.found
