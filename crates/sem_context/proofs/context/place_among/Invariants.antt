use Rattle.std.proofs.Common.{◌≡◌, ℕ, ◌<◌, Some}
use Rattle.std.specs.Prelude.{slice_get}
use Rattle.std.specs.Map.{keys_of}
use Rattle.sem_context.specs.Placing.{shown}
use Rattle.sem_context.proofs.context.place_among.Given as goal

abbrev pub invariant-loop-place : goal.invariant-loop-place
invariant-loop-place l = (i : ℕ) → i < l.place → slice_get (keys_of (shown l.kept)) i ≡ Some l.path → ⊥
