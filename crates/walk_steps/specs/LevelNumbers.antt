-- What expressions are evaluated by (docs/DEFINITIONS.md, What a walk knows of a level).
use Rattle.std.specs.Prelude.{◌<◌, ◌^◌, length}
use Rattle.sem_expr.specs.declared.expr.Side.TheVariants.{Uncompressed, Compressed}
use Rattle.sem_expr.specs.declared.known.Known.{Known}
use Rattle.walk_steps.specs.declared.values.LevelNumbers.{LevelNumbers}
use Rattle.walk_steps.specs.Fronts.{AreMeasured}
use Rattle.walk_steps.specs.Joined.{joined_bits}
use Rattle.walk_steps.specs.Partial.{whole_numbers, known_by}

-- the numbers that are known
abbrev pub known_in : LevelNumbers → Known
known_in s = known_by s.slots.now (whole_numbers s.slots.now s.headers.now s.listing.now) s.parameters.now

-- the sides of the whole are short, and its fronts are measured
pub record IsClear (s : LevelNumbers) : Type 0 where
  pub header : length (joined_bits s.slots.now Uncompressed s.headers.now) < 2 ^ 31
  pub packed : length (joined_bits s.slots.now Compressed s.listing.now) < 2 ^ 31
  pub fronts_are : AreMeasured s.slots.now s.headers.now s.listing.now s.fronts
