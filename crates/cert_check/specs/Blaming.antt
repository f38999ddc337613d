-- What a refusal says of what was refused: a fault that is there, and that all before it in the order of a check is right (docs/DEFINITIONS.md, Certificates).
use Rattle.std.specs.Prelude.{◌≡◌, ℕ, ◌<◌, ◌≤◌, List, Some, slice_get}
use Rattle.sem_profile.specs.declared.profile.Format.{Format}
use Rattle.sem_profile.specs.declared.profile.Method.{Method}
use Rattle.sem_profile.specs.declared.profile.FormatSizes.{FormatSizes}
use Rattle.sem_profile.specs.declared.profile.MethodSizes.{MethodSizes}
use Rattle.sem_profile.specs.Resolved.{Resolved}
use Rattle.cert_types.specs.declared.certificate.Version.{Version}
use Rattle.cert_types.specs.declared.certificate.Direction.{Direction}
use Rattle.cert_types.specs.declared.certificate.Direction.TheVariants.{Read, Write}
use Rattle.cert_types.specs.declared.certificate.Plans.{Plans}
use Rattle.cert_types.specs.declared.certificate.MethodPlans.{MethodPlans}
use Rattle.cert_types.specs.Kept.{Certified, candidate_limit}
use Rattle.cert_rules.specs.declared.fault.CheckFault.{CheckFault}
use Rattle.cert_rules.specs.declared.fault.CheckFault.TheVariants as check
use Rattle.cert_rules.specs.Plans.{way_of, IsPlan}
use Rattle.cert_rules.specs.Trees.{PartsFormats}
use Rattle.cert_rules.specs.Counts.{AreCounts}
use Rattle.cert_rules.specs.Valid.{plans_at, HasPlans}
use Rattle.cert_rules.specs.Refusals.{At, IsRefused}
use Rattle.cert_check.specs.Right.{IsMethodRight, AreEntriesRight}
use Rattle.cert_check.specs.declared.refusal.CheckError.{CheckError}
use Rattle.cert_check.specs.declared.refusal.CheckError.TheVariants.{Fault, OutOfMemory}

-- ---- what comes before a fault

-- the methods before this one
abbrev pub AreRightBefore : List Method → List MethodSizes → Certified → ℕ → Type 0
AreRightBefore methods table cert k = (j : ℕ) → j < k → IsMethodRight methods table cert j

-- of a method with this entry, the formats before this one
abbrev pub FormatsRightBefore : Version → List MethodSizes → Method → MethodSizes → MethodPlans → ℕ → Type 0
FormatsRightBefore version table m s entry n = (j : ℕ) (format : Format) (sizes : FormatSizes) → j < n → slice_get m.formats j ≡ Some format → slice_get s.formats j ≡ Some sizes → HasPlans version table sizes format entry j

-- of the format n the plan to read
pub record HasReadPlan (version : Version) (table : List MethodSizes) (m : Method) (s : MethodSizes) (entry : MethodPlans) (n : ℕ) : Type 0 where
  pub format : Format
  pub sizes : FormatSizes
  pub plans : Plans
  pub format_at : slice_get m.formats n ≡ Some format
  pub sizes_at : slice_get s.formats n ≡ Some sizes
  pub plans_are : plans_at entry n ≡ Some plans
  pub read : IsPlan (way_of version Read table sizes format) plans.read

-- where the plan of that direction comes after it
abbrev pub ReadIsRight : Direction → Version → List MethodSizes → Method → MethodSizes → MethodPlans → ℕ → Type 0
ReadIsRight Read version table m s entry n = Unit {0}
ReadIsRight Write version table m s entry n = HasReadPlan version table m s entry n

-- the methods before k are right, the tree of k, and its formats before n
pub record RightBeforeFormat (methods : List Method) (table : List MethodSizes) (cert : Certified) (k n : ℕ) : Type 0 where
  pub methods_before : AreRightBefore methods table cert k
  pub method : Method
  pub whole : MethodSizes
  pub entry : MethodPlans
  pub at : At methods table cert.methods k method whole entry
  pub tree : PartsFormats method.formats whole entry.tree
  pub formats_before : FormatsRightBefore cert.version table method whole entry n

-- and of n the plan to read, where that to write comes next
pub record RightBeforePlan (methods : List Method) (table : List MethodSizes) (cert : Certified) (k n : ℕ) (direction : Direction) : Type 0 where
  pub format : RightBeforeFormat methods table cert k n
  pub read : ReadIsRight direction cert.version table format.method format.whole format.entry n

-- the top has no more candidates than it may
pub record HasFew (methods : List Method) (top : ℕ) (cert : Certified) : Type 0 where
  pub counts : List ℕ
  pub are_counts : AreCounts methods cert.methods counts
  pub few : (n : ℕ) → slice_get counts top ≡ Some n → n ≤ candidate_limit

-- the entries are right, and the number of candidates
pub record RightBeforeLength (methods : List Method) (table : List MethodSizes) (top : ℕ) (cert : Certified) : Type 0 where
  pub entries : AreEntriesRight methods table cert
  pub counted : HasFew methods top cert

-- All that comes before a fault is right; what its own method's tree has before a node, and its own plan before a step or a side, the fault itself says.
abbrev pub AllRightBefore : List Method → List MethodSizes → ℕ → Certified → CheckFault → Type 0
AllRightBefore methods table top cert (check.NoMethod k) = AreRightBefore methods table cert k
AllRightBefore methods table top cert (check.WrongLeaf k node n) = AreRightBefore methods table cert k
AllRightBefore methods table top cert (check.ShortFormat k node n) = AreRightBefore methods table cert k
AllRightBefore methods table top cert (check.OutOfRange k node) = AreRightBefore methods table cert k
AllRightBefore methods table top cert (check.BeyondWord k node) = AreRightBefore methods table cert k
AllRightBefore methods table top cert (check.NoFormat k n) = RightBeforeFormat methods table cert k n
AllRightBefore methods table top cert (check.NotEnabled k n direction step) = RightBeforePlan methods table cert k n direction
AllRightBefore methods table top cert (check.NeverLearnt k n direction field side) = RightBeforePlan methods table cert k n direction
AllRightBefore methods table top cert check.TooMany = AreEntriesRight methods table cert
AllRightBefore methods table top cert check.TooLong = RightBeforeLength methods table top cert

-- the fault is there, and all before it is right
pub record IsFirstFault (methods : List Method) (table : List MethodSizes) (top : ℕ) (cert : Certified) (fault : CheckFault) : Type 0 where
  pub refused : IsRefused methods table top cert fault
  pub before : AllRightBefore methods table top cert fault

-- ---- what an error says

-- of the profile and the certificate
abbrev pub Blames : Resolved → Certified → CheckError → Type 0
Blames profile certificate (Fault fault) = IsFirstFault profile.methods profile.sizes profile.top certificate fault
Blames profile certificate OutOfMemory = Unit {0}
