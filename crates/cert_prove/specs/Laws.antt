-- Laws of the prover's order: after P1 and P2 no certificate is valid, and one of the order is refused for its candidates or its length alone.
use Rattle.std.specs.List.{AllByRecursion}
use Rattle.std.specs.Prelude.{◌≡◌, ℕ, List, ◌⊎◌, Some, slice_get}
use Rattle.sem_profile.specs.declared.profile.Format.{Format}
use Rattle.sem_profile.specs.declared.profile.Method.{Method}
use Rattle.sem_profile.specs.declared.profile.FormatSizes.{FormatSizes}
use Rattle.sem_profile.specs.declared.profile.MethodSizes.{MethodSizes}
use Rattle.sem_profile.specs.Outcome.{AreSizes}
use Rattle.cert_types.specs.declared.certificate.Version.{Version}
use Rattle.cert_types.specs.declared.certificate.Direction.{Direction}
use Rattle.cert_types.specs.declared.certificate.Plans.{Plans}
use Rattle.cert_types.specs.declared.certificate.MethodPlans.{MethodPlans}
use Rattle.cert_types.specs.Kept.{Certified, IsNodeIn}
use Rattle.cert_rules.specs.declared.fault.CheckFault.{CheckFault}
use Rattle.cert_rules.specs.declared.fault.CheckFault.TheVariants.{TooMany, TooLong}
use Rattle.cert_rules.specs.Plans.{way_of, IsPlan}
use Rattle.cert_rules.specs.Refusals.{IsRefused, steps_of}
use Rattle.cert_rules.specs.Trees.{PartsFormats}
use Rattle.cert_rules.specs.Valid.{HasEntry}
use Rattle.cert_prove.specs.declared.fault.FieldSide.{FieldSide}
use Rattle.cert_prove.specs.OrderedFormats.{IsOrdered}
use Rattle.cert_prove.specs.Proved.{FormatAt, MethodAt, LacksPlan, LacksTree}

-- Where a format's closure lacks a side, no steps are a plan of it in that direction, whatever the certificate of that version.
abbrev pub UnplannedHasNoPlan : Type 0
UnplannedHasNoPlan = (version : Version) (methods : List Method) (table : List MethodSizes) (k n : ℕ) (direction : Direction) (sides : List FieldSide) (format : Format) (bounds : FormatSizes) (plans : Plans) →
    LacksPlan version methods table k n direction sides → FormatAt methods table k n format bounds → IsPlan (way_of version direction table bounds format) (steps_of direction plans) → ⊥

-- Where a set of formats is stuck, no nodes of that version part the method's formats.
abbrev pub UnpartedHasNoTree : Type 0
UnpartedHasNoTree = (version : Version) (methods : List Method) (table : List MethodSizes) (k first second : ℕ) (m : Method) (s : MethodSizes) (entry : MethodPlans) →
    LacksTree version methods table k first second → MethodAt methods table k m s → AllByRecursion (IsNodeIn version) entry.tree → PartsFormats m.formats s entry.tree → ⊥

-- What is of the order is right, entry by entry.
abbrev pub OrderedIsRight : Type 0
OrderedIsRight = (methods : List Method) (table : List MethodSizes) (cert : Certified) → IsOrdered methods table cert →
    (k : ℕ) (m : Method) (s : MethodSizes) (first : Format) → slice_get methods k ≡ Some m → slice_get table k ≡ Some s → slice_get m.formats 0 ≡ Some first → HasEntry cert.version table m s cert.methods k

-- So a check refuses it for too many candidates or for its length alone.
abbrev pub OrderedIsRefused : Type 0
OrderedIsRefused = (methods : List Method) (table : List MethodSizes) (top : ℕ) (cert : Certified) (fault : CheckFault) → AreSizes methods table → IsOrdered methods table cert → IsRefused methods table top cert fault → (fault ≡ TooMany) ⊎ (fault ≡ TooLong)
