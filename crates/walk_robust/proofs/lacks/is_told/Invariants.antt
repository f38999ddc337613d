use Rattle.std.proofs.Common.{◌≡◌, ℕ, ◌<◌, Some}
use Rattle.std.specs.Prelude.{slice_get}
use Rattle.walk_loss.specs.declared.unserved.Lack.{Lack}
use Rattle.walk_robust.proofs.lacks.is_told.Given as goal

-- no line so far is of the format
abbrev pub invariant-loop-lack : goal.invariant-loop-lack
invariant-loop-lack l = (i : ℕ) (x : Lack) → i < l.lack-index → slice_get l.found i ≡ Some x → x.format ≡ l.format → ⊥
