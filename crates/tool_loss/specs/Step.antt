-- By which step a number has gone on from its reference, and which steps `lsb` takes (docs/FORMATS.md, loss).
use Rattle.std.specs.Prelude.{ℕ, ◌+◌, ◌-◌, ◌*◌, ◌%◌, ◌^◌, nat_eq, nat_le, nat_lt, Bool, List, length, Option, Some, None, ◌&&◌, if◌then◌else◌, ℤ, pos, negsuc, ◌-ℤ◌}
use Rattle.std.specs.Int.RustNames.{unsigned_abs}
use Rattle.sem_bits.specs.Number.{num}
use Rattle.walk_loss.specs.declared.uses.Referring.{Referring}
use Rattle.walk_loss.specs.declared.uses.Referring.TheVariants.{Static, Lsb}
use Rattle.walk_loss.specs.declared.unserved.Unserved.{Unserved}
use Rattle.tool_loss.specs.declared.step.Step.{Step}

-- so many numbers further on of all; or where that is half of them or more, so many back
abbrev pub nearest : ℕ → ℕ → ℤ
nearest all ahead = if nat_lt (ahead * 2) all then pos ahead else pos ahead -ℤ pos all

-- the step from one number of n bits to another, modulo 2 ^ n
abbrev pub step_between : ℕ → ℕ → ℕ → ℤ
step_between n from to = nearest (2 ^ n) ((to + 2 ^ n - from) % 2 ^ n)

-- both have as many bits, 64 at most, and the arguments are of the size of such numbers
abbrev pub is_small : ℕ → ℤ → List Bool → List Bool → Bool
is_small k p r u = nat_eq (length r) (length u) && (nat_le (length u) 64 && (nat_le k 64 && nat_le (unsigned_abs p) (2 ^ 64)))

-- `lsb(k, p)` takes the steps from -p to 2 ^ k - p - 1
abbrev pub steps : ℕ → ℤ → ℤ → Step
steps k p step = record { step = step; from = pos 0 -ℤ p; to = pos (2 ^ k) -ℤ p -ℤ pos 1 }

abbrev pub near_step : ℤ → ℤ → List Bool → List Bool → Option Step
near_step (pos k) p r u = if is_small k p r u then Some (steps k p (step_between (length u) (num r) (num u))) else None
near_step (negsuc k) p r u = None

abbrev pub step_by : Referring → Option (List Bool) → List Bool → Option Step
step_by (Lsb k p) (Some r) u = near_step k p r u
step_by (Lsb k p) None u = None
step_by Static r u = None

abbrev pub step_of : Unserved → Option Step
step_of x = step_by x.method x.reference x.needed
