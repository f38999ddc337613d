-- What is right of a certificate, part by part (docs/DEFINITIONS.md, Certificates).
use Rattle.std.specs.Prelude.{◌≡◌, ℕ, List, Some, slice_get}
use Rattle.sem_profile.specs.declared.profile.Format.{Format}
use Rattle.sem_profile.specs.declared.profile.Method.{Method}
use Rattle.sem_profile.specs.declared.profile.FormatSizes.{FormatSizes}
use Rattle.sem_profile.specs.declared.profile.MethodSizes.{MethodSizes}
use Rattle.cert_types.specs.declared.certificate.Version.{Version}
use Rattle.cert_types.specs.declared.certificate.Direction.TheVariants.{Read, Write}
use Rattle.cert_types.specs.declared.certificate.Plans.{Plans}
use Rattle.cert_types.specs.declared.certificate.MethodPlans.{MethodPlans}
use Rattle.cert_types.specs.Kept.{Certified}
use Rattle.cert_rules.specs.Plans.{way_of, IsPlan}
use Rattle.cert_rules.specs.Trees.{PartsFormats}
use Rattle.cert_rules.specs.Valid.{HasPlans, HasEntry}

-- both plans serve the format
pub record Serve (version : Version) (table : List MethodSizes) (sizes : FormatSizes) (format : Format) (plans : Plans) : Type 0 where
  pub read : IsPlan (way_of version Read table sizes format) plans.read
  pub write : IsPlan (way_of version Write table sizes format) plans.write

-- each format has plans that serve it
abbrev pub AreFormatsRight : Version → List MethodSizes → List FormatSizes → List Format → MethodPlans → Type 0
AreFormatsRight version table bounds formats entry = (n : ℕ) (format : Format) → slice_get formats n ≡ Some format → (sizes : FormatSizes) → slice_get bounds n ≡ Some sizes → HasPlans version table sizes format entry n

-- the tree parts the formats, and each has plans
pub record IsEntryRight (version : Version) (table : List MethodSizes) (m : Method) (s : MethodSizes) (entry : MethodPlans) : Type 0 where
  pub tree : PartsFormats m.formats s entry.tree
  pub formats : AreFormatsRight version table s.formats m.formats entry

-- the method k has an entry, if it has a format
abbrev pub IsMethodRight : List Method → List MethodSizes → Certified → ℕ → Type 0
IsMethodRight methods table cert k =
    (m : Method) (s : MethodSizes) (first : Format) → slice_get methods k ≡ Some m → slice_get table k ≡ Some s → slice_get m.formats 0 ≡ Some first → HasEntry cert.version table m s cert.methods k

abbrev pub AreEntriesRight : List Method → List MethodSizes → Certified → Type 0
AreEntriesRight methods table cert = (k : ℕ) → IsMethodRight methods table cert k
