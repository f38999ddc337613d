-- The numbers of a level, as far as expressions may ask for them: those of up to 64 bits.
use Rattle.std.specs.Prelude.{◌≡◌, ℕ, nat_le, Bool, List, map, length, slice_get, ℤ, pos, Some, None, IfSome, if◌then◌else◌}
use Rattle.sem_bits.specs.Number.{num}
use Rattle.sem_expr.specs.Rules.{IsIn}
use Rattle.sem_expr.specs.declared.known.Numbers.{Numbers}
use Rattle.sem_expr.specs.declared.known.SideNumbers.{SideNumbers}
use Rattle.sem_expr.specs.declared.known.Known.{Known}
use Rattle.sem_profile.specs.declared.profile.Bounds.{Bounds}
use Rattle.sem_profile.specs.declared.profile.Sizes.{Sizes}
use Rattle.sem_profile.specs.Ranging.{value_range, length_range}
use Rattle.sem_filling.specs.declared.filling.Filling.{Filling}
use Rattle.sem_filling.specs.Fillings.{Sides, level, header, packed}

-- the number that bits spell, up to 64 of them, and how many they are
abbrev pub numbers : List Bool → Numbers
numbers bits = record { value = if nat_le (length bits) 64 then Some (pos (num bits)) else None; length = Some (pos (length bits)) }

abbrev pub numbers_of : Sides → SideNumbers
numbers_of s = record { uncompressed = numbers s.uncompressed; compressed = numbers s.compressed }

-- those of the fields and of the whole, and the arguments
abbrev pub known_level : Filling → List ℤ → Known
known_level f args = record {
  fields = map numbers_of (level f);
  whole = record { uncompressed = numbers (header f); compressed = numbers (packed f) };
  parameters = args;
}

-- ---- in their ranges

-- what is known of a side lies in the ranges of its bounds: its number, if that is known, and its length, if that is
pub record NumbersLie (b : Bounds) (x : Numbers) : Type 0 where
  pub value_lies : IfSome x.value (IsIn (value_range b.most))
  pub length_lies : IfSome x.length (IsIn (length_range b))

pub record BothLie (b : Sizes) (x : SideNumbers) : Type 0 where
  pub uncompressed_lies : NumbersLie b.uncompressed x.uncompressed
  pub compressed_lies : NumbersLie b.compressed x.compressed

-- the same of each field
abbrev pub AllLie : List Sizes → List SideNumbers → Type 0
AllLie bs xs = (j : ℕ) (b : Sizes) (x : SideNumbers) → slice_get bs j ≡ Some b → slice_get xs j ≡ Some x → BothLie b x
