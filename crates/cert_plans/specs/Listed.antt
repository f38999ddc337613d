-- Which fields of a format are listed, as flags by field.
use Rattle.std.specs.Prelude.{◌≡◌, ℕ, ◌<◌, Bool, false, List, length, get_or}
use Rattle.sem_profile.specs.declared.profile.Format.{Format}
use Rattle.sem_profile.specs.Fields.{lists}

-- a flag for each field: whether it is listed
pub record AreFlags (format : Format) (flags : List Bool) : Type 0 where
  pub each : length flags ≡ length format.fields
  pub right : (i : ℕ) → i < length format.fields → get_or flags i false ≡ lists format.listing i
