-- The packed bits of a format as columns (docs/FORMATS.md).
use Rattle.std.specs.Prelude.{ℕ, ◌+◌, ◌-◌, ◌^◌, ◌&&◌, min, nat_le, nat_lt, List, [], ◌∷◌, ℤ, pos, slice_get, if◌then◌else◌, Option, Some, None, option_map, option_and_then, unwrap_or}
use Rattle.sem_profile.specs.declared.profile.Bounds.{Bounds}
use Rattle.sem_profile.specs.declared.profile.Sizes.{Sizes}
use Rattle.sem_profile.specs.declared.profile.Library.TheVariants as library
use Rattle.sem_profile.specs.declared.profile.Encoding.{Encoding}
use Rattle.sem_profile.specs.declared.profile.Encoding.TheVariants as encoding
use Rattle.sem_profile.specs.declared.profile.Field.{Field}
use Rattle.sem_profile.specs.declared.profile.Format.{Format}
use Rattle.sem_profile.specs.declared.profile.FormatSizes.{FormatSizes}
use Rattle.sem_profile.specs.Constants.{constant}
use Rattle.sem_profile.specs.Resolved.{Resolved}
use Rattle.sem_filling.specs.Fits.{format_at}
use Rattle.sem_filling.specs.Bounded.{sizes_at}
use Rattle.sem_lint.specs.declared.columns.Column.{Column}

-- the bounds of a field's packed bits; none past the last field
abbrev pub width : List Sizes → ℕ → Bounds
width sizes i = unwrap_or (option_map (λ (s : Sizes). s.compressed) (slice_get sizes i)) (record { least = 0; most = 0 })

-- a sum in 128 bits, which stops at the greatest number
abbrev pub capped : ℕ → ℕ → ℕ
capped n m = min (n + m) (2 ^ 128 - 1)

-- where the bits begin that follow bits of this width
abbrev pub further : Bounds → Bounds → Bounds
further offset width = record { least = capped offset.least width.least; most = capped offset.most width.most }

-- a number, where so many bits, which are 64 at most, can spell it
abbrev pub fitting : Option ℤ → Option ℤ → Option ℤ
fitting (Some (pos n)) (Some (pos v)) = if nat_le n 64 && nat_lt v (2 ^ n) then Some (pos v) else None
fitting _ _ = None

-- the number that all packed bits under an encoding spell
abbrev pub packed_constant : Encoding → Option ℤ
packed_constant (encoding.Library (library.CompressedValue length value)) = fitting (constant length) (constant value)
packed_constant _ = None

abbrev pub constant_at : List Field → ℕ → Option ℤ
constant_at fields i = option_and_then (λ (d : Field). packed_constant d.encoding) (slice_get fields i)

abbrev pub column_of : List Field → List Sizes → Bounds → ℕ → Column
column_of fields sizes offset i = record { field = i; offset = offset; width = width sizes i; constant = constant_at fields i }

-- those of the listed fields from an offset on, each after the one before
abbrev pub columns_from : List Field → List Sizes → Bounds → List ℕ → List Column
columns_from fields sizes offset [] = []
columns_from fields sizes offset (i ∷ is) = column_of fields sizes offset i ∷ columns_from fields sizes (further offset (width sizes i)) is

-- the columns of a format, in the order of its listing
abbrev pub columns_of : Format → List Sizes → List Column
columns_of format sizes = columns_from format.fields sizes (record { least = 0; most = 0 }) format.listing

-- those of the format n of the method k; none where it is not there
abbrev pub columns_by : Option Format → Option FormatSizes → List Column
columns_by (Some format) (Some sizes) = columns_of format sizes.fields
columns_by (Some format) None = []
columns_by None sizes = []

abbrev pub columns_at : Resolved → ℕ → ℕ → List Column
columns_at p k n = columns_by (format_at p.methods k n) (sizes_at p.sizes k n)
