use Rattle.std.specs.Prelude.{◌≡◌, ℕ, ◌<◌, ◌≤◌, ◌^◌, Bool, List, length}
use Rattle.sem_bits.specs.declared.bits.Form.{Form}
use Rattle.sem_bits.specs.declared.bits.Form.TheVariants.{Word, Long}
use Rattle.sem_bits.specs.Number.{enc}

-- the bits that stand in a form, so many of them
abbrev pub bits_in : Form → ℕ → List Bool
bits_in (Word word) count = enc count word
bits_in (Long long) count = long.value

-- A word holds at most 64 bits, and a long list more.
abbrev pub IsForm : Form → ℕ → Type 0
IsForm (Word word) count = (count ≤ 64) × (word < 2 ^ count)
IsForm (Long long) count = (length long.value ≡ count) × (64 < count) × (count < 2 ^ 31)
