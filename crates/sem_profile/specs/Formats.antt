-- The bounds of a format: of its fields, of its header and of its packed bits.
use Rattle.std.specs.Prelude.{ℕ, ◌+◌, ◌^◌, ◌<◌, Bool, true, false, List, map, fold, slice_get, unwrap_or, if◌then◌else◌}
use Rattle.sem_profile.specs.declared.profile.Part.{Part}
use Rattle.sem_profile.specs.declared.profile.Part.TheVariants.{Header}
use Rattle.sem_profile.specs.declared.profile.Bounds.{Bounds}
use Rattle.sem_profile.specs.declared.profile.Sizes.{Sizes}
use Rattle.sem_profile.specs.declared.profile.FormatSizes.{FormatSizes}
use Rattle.sem_profile.specs.declared.profile.MethodSizes.{MethodSizes}
use Rattle.sem_profile.specs.declared.profile.Field.{Field}
use Rattle.sem_profile.specs.declared.profile.Format.{Format}
use Rattle.sem_profile.specs.Fields.{bounds, sides, field_sizes}
use Rattle.sem_profile.specs.Passes.{indexed}

abbrev pub plus : Bounds → Bounds → Bounds
plus b c = bounds (b.least + c.least) (b.most + c.most)

abbrev pub total : List Bounds → Bounds
total bs = fold plus (bounds 0 0) bs

abbrev pub sizes_at : List Sizes → ℕ → Sizes
sizes_at fields i = unwrap_or (slice_get fields i) (sides (bounds 0 0) (bounds 0 0))

abbrev pub is_header : Part → Bool
is_header Header = true
is_header _ = false

-- the length of a field's part of the header
abbrev pub header_bounds : List Sizes → ℕ → Field → Bounds
header_bounds fields i field = if is_header field.declared.part then (sizes_at fields i).uncompressed else bounds 0 0

abbrev pub both_totals : List Bounds → List Bounds → Sizes
both_totals header packed = sides (total header) (total packed)

-- from those of the fields: the sum over the header fields, and that over the listing
abbrev pub whole_sizes : Format → List Sizes → Sizes
whole_sizes format fields = both_totals (indexed (header_bounds fields) 0 format.fields) (map (λ i. (sizes_at fields i).compressed) format.listing)

abbrev pub sized_by : Format → List Sizes → FormatSizes
sized_by format fields = record { fields = fields; whole = whole_sizes format fields }

abbrev pub format_sizes : List MethodSizes → Format → FormatSizes
format_sizes table format = sized_by format (indexed (field_sizes table format) 0 format.fields)

-- both are numbers of 128 bits
pub record AreNumbers (b : Bounds) : Type 0 where
  pub least : b.least < 2 ^ 128
  pub most : b.most < 2 ^ 128

-- the same of the header and of the packed bits
pub record HaveNumbers (s : Sizes) : Type 0 where
  pub header : AreNumbers s.uncompressed
  pub packed : AreNumbers s.compressed
