-- Why a format has no plan of the order (docs/DEFINITIONS.md, The order of a plan).
use Rattle.std.specs.Prelude.{◌<◌, List, length}
use Rattle.sem_profile.specs.declared.profile.Format.{Format}
use Rattle.sem_profile.specs.declared.profile.FormatSizes.{FormatSizes}
use Rattle.sem_profile.specs.declared.profile.MethodSizes.{MethodSizes}
use Rattle.cert_types.specs.declared.certificate.Version.{Version}
use Rattle.cert_types.specs.declared.certificate.Direction.{Direction}
use Rattle.cert_rules.specs.Plans.{Way, way_of}
use Rattle.cert_prove.specs.declared.fault.FieldSide.{FieldSide}
use Rattle.cert_prove.specs.declared.fault.Unordered.{Unordered}
use Rattle.cert_prove.specs.declared.fault.Unordered.TheVariants.{Lacking as LackingSides, TooLong, OutOfMemory}
use Rattle.cert_prove.specs.Closure.{Closure, Lacking}
use Rattle.cert_prove.specs.Order.{order_of}
use Rattle.cert_prove.specs.Ordered.{PassesLimit}

-- the sides that no steps learn, of which there is one at least
pub record NeverLearns (way : Way) (sides : List FieldSide) : Type 0 where
  pub lacking : Lacking (Closure way) way.goals sides
  pub some : 0 < length sides

-- what the refusal says of the format in that direction
abbrev pub Blames : Version → Direction → List MethodSizes → FormatSizes → Format → Unordered → Type 0
Blames version direction table sizes format (LackingSides sides) = NeverLearns (way_of version direction table sizes format) sides
Blames version direction table sizes format TooLong = PassesLimit (way_of version direction table sizes format) (order_of direction format)
Blames version direction table sizes format OutOfMemory = Unit {0}
