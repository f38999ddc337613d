-- How far the parts of a side of the whole are measured, from the first on (docs/DEFINITIONS.md, What a walk knows of a level).
use Rattle.std.specs.Prelude.{◌≡◌, ◌≤◌, ℕ, ℤ, true, List, length, take}
use Rattle.sem_expr.specs.declared.expr.Side.{Side}
use Rattle.sem_expr.specs.declared.expr.Side.TheVariants.{Uncompressed, Compressed}
use Rattle.sem_profile.specs.declared.profile.FormatSizes.{FormatSizes}
use Rattle.sem_profile.specs.declared.profile.Format.{Format}
use Rattle.cert_rules.specs.declared.slots.Slot.{Slot}
use Rattle.walk_steps.specs.declared.fronts.Front.{Front}
use Rattle.walk_steps.specs.declared.fronts.Fronts.{Fronts}
use Rattle.walk_steps.specs.Joined.{joined_bits, are_measured, header_places}
use Rattle.walk_steps.specs.Partial.{IsKept}

abbrev pub front : ℕ → ℕ → Front
front measured len = record { measured = measured; length = len }

-- the parts before the front have known lengths, and so many bits together
pub record IsMeasured (slots : List Slot) (side : Side) (parts : List ℕ) (front : Front) : Type 0 where
  pub within : front.measured ≤ length parts
  pub measured : are_measured slots side (take front.measured parts) ≡ true
  pub length_is : front.length ≡ length (joined_bits slots side (take front.measured parts))

-- so of both sides, whose parts are the header fields and the listed ones
pub record AreMeasured (slots : List Slot) (headers listing : List ℕ) (fronts : Fronts) : Type 0 where
  pub uncompressed : IsMeasured slots Uncompressed headers fronts.uncompressed
  pub compressed : IsMeasured slots Compressed listing fronts.compressed

-- the parts of a level: the header fields by their indices, and the fronts
pub record IsInOrder (format : Format) (sizes : FormatSizes) (headers : List ℕ) (slots : List Slot) (args : List ℤ) (fronts : Fronts) : Type 0 where
  pub kept : IsKept (record { format = format; sizes = sizes; args = args; slots = slots })
  pub headers_are : headers ≡ header_places 0 format.fields
  pub fronts_are : AreMeasured slots headers format.listing fronts
