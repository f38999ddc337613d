use Rattle.std.proofs.Common.{◌≡◌, ℕ, ◌<◌}
use Rattle.std.specs.Prelude.{Some, slice_get}
use Rattle.sem_profile.specs.declared.profile.Format.{Format}
use Rattle.sem_lint.specs.Marks.{IsHeld, own_at}
use Rattle.sem_lint.proofs.marks.are_held.Given as goal

abbrev pub invariant-loop-format : goal.invariant-loop-format
invariant-loop-format l = (n : ℕ) (format : Format) → n < l.format → slice_get l.formats n ≡ Some format → IsHeld l.marks (own_at l.own l.method n) format.fields
