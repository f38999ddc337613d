-- What columns say of fillings.
use Rattle.std.specs.Prelude.{◌≡◌, ℕ, ℤ, pos, Bool, List, ◌++◌, length, take, drop, slice_get, Some, IfSome}
use Rattle.sem_bits.specs.Number.{num}
use Rattle.sem_expr.specs.declared.expr.Side.TheVariants.{Compressed}
use Rattle.sem_filling.specs.declared.filling.Filling.{Filling, out-Filling}
use Rattle.sem_filling.specs.Fillings.{level, packed}
use Rattle.sem_filling.specs.Entries.{Path}
use Rattle.sem_filling.specs.Fits.{Context, Fits, field_side}
use Rattle.sem_filling.specs.Bounded.{LiesBetween}
use Rattle.sem_profile.specs.Resolved.{Resolved, IsSound}
use Rattle.sem_lint.specs.declared.columns.Column.{Column}
use Rattle.sem_lint.specs.Columns.{columns_at}

-- the bits of a column in a filling: those of its field
abbrev pub column_bits : Column → Filling → List Bool
column_bits c f = field_side (slice_get (level f) c.field) Compressed

-- the bits of the column stand among the packed bits, not before its least offset nor after its greatest; they are as many as its width says, and spell its constant
pub record StandsAt (c : Column) (f : Filling) : Type 0 where
  pub before : List Bool
  pub after : List Bool
  pub packed_is : packed f ≡ before ++ (column_bits c f ++ after)
  pub offset_lies : LiesBetween c.offset (length before)
  pub width_lies : LiesBetween c.width (length (column_bits c f))
  pub constant_is : IfSome c.constant (λ v. pos (num (column_bits c f)) ≡ v)

-- So does each column of a format, in every filling of it that fits.
abbrev pub ColumnsAreOffsets : Type 0
ColumnsAreOffsets = (p : Resolved) → IsSound p → (k n : ℕ) →
    (ctx : Context) (args : List ℤ) (path : Path) (f : Filling) → Fits p.methods ctx k args path f → (out-Filling f).format ≡ n →
    (j : ℕ) (c : Column) → slice_get (columns_at p k n) j ≡ Some c → StandsAt c f

-- one offset and one width
pub record IsFixed (c : Column) : Type 0 where
  pub one_offset : c.offset.least ≡ c.offset.most
  pub one_width : c.width.least ≡ c.width.most

-- Where a column has one offset and one width, its bits are those of this place.
abbrev pub FieldsStandThere : Type 0
FieldsStandThere = (p : Resolved) → IsSound p → (k n : ℕ) →
    (ctx : Context) (args : List ℤ) (path : Path) (f : Filling) → Fits p.methods ctx k args path f → (out-Filling f).format ≡ n →
    (j : ℕ) (c : Column) → slice_get (columns_at p k n) j ≡ Some c → IsFixed c → take c.width.least (drop c.offset.least (packed f)) ≡ column_bits c f
