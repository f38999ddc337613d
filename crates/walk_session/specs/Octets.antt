-- Octets that are given and written.
use Rattle.std.specs.Prelude.{◌≡◌, ◌<◌, ◌≤◌, ◌^◌, ◌++◌, ℕ, Bool, List, drop, length}
use Rattle.sem_bits.specs.Octets.{Holds}

-- octets and a count that stand for bits
abbrev pub IsOf : List ℕ → ℕ → List Bool → Type 0
IsOf octets count bits = (length bits ≡ count) × Holds octets bits

-- they stand for none, or for too many
abbrev pub IsOfNone : List ℕ → ℕ → Type 0
IsOfNone octets count = (bits : List Bool) → length bits ≡ count → count < 2 ^ 31 → Holds octets bits → ⊥

-- the room begins with these octets, and the rest of it stays
pub record IsPut (octets old new : List ℕ) : Type 0 where
  pub within : length octets ≤ length old
  pub new_is : new ≡ octets ++ drop (length octets) old

-- the room begins with the octets that hold the bits, and the rest of it stays
pub record IsWritten (bits : List Bool) (old new : List ℕ) : Type 0 where
  pub octets : List ℕ
  pub holds : Holds octets bits
  pub put : IsPut octets old new
