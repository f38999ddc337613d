use Rattle.std.proofs.Common.{◌≡◌, ℕ, ◌<◌, Some}
use Rattle.std.specs.Prelude.{slice_get}
use Rattle.std.specs.Map.{keys_of}
use Rattle.sem_context.specs.Placing.{shown}
use Rattle.walk_robust.proofs.successors.is_anywhere.Given as goal

-- the path stands at no place so far
abbrev pub invariant-loop-place : goal.invariant-loop-place
invariant-loop-place l = (i : ℕ) → i < l.place → slice_get (keys_of (shown l.left)) i ≡ Some l.path → ⊥
