-- What the parts of the prover answer: what is of the order in a part of a profile, or why every profile with that part has no certificate of the order.
use Rattle.std.specs.Prelude.{◌≡◌, ℕ, ◌<◌, List, [], length, Option, Some, None, slice_get}
use Rattle.sem_profile.specs.declared.profile.Format.{Format}
use Rattle.sem_profile.specs.declared.profile.Method.{Method}
use Rattle.sem_profile.specs.declared.profile.FormatSizes.{FormatSizes}
use Rattle.sem_profile.specs.declared.profile.MethodSizes.{MethodSizes}
use Rattle.cert_types.specs.declared.certificate.Version.{Version}
use Rattle.cert_types.specs.declared.certificate.Node.{Node}
use Rattle.cert_types.specs.declared.certificate.Plans.{Plans}
use Rattle.cert_types.specs.declared.certificate.FormatPlans.{FormatPlans}
use Rattle.cert_types.specs.declared.certificate.MethodPlans.{MethodPlans}
use Rattle.cert_types.specs.Kept.{Entries, IsTreeKept, ArePlansKept}
use Rattle.cert_types.specs.Of.{of_format, of_method}
use Rattle.cert_prove.specs.Growing.{OrderedTree}
use Rattle.cert_prove.specs.declared.unproved.Unproved.{Unproved}
use Rattle.cert_prove.specs.OrderedFormats.{AreOrdered}
use Rattle.cert_prove.specs.Proved.{HasTree, MethodsBefore, FormatsBefore, Lacks}

-- ---- what is made

-- of a format its plans of the order, within the limits
pub record IsFormatMade (version : Version) (table : List MethodSizes) (sizes : FormatSizes) (format : Format) (entry : FormatPlans) : Type 0 where
  pub plans : Plans
  pub is : entry ≡ of_format format (Some plans)
  pub ordered : AreOrdered version table sizes format plans
  pub kept : ArePlansKept plans

-- of each format
pub record AreFormatsMade (version : Version) (table : List MethodSizes) (bounds : List FormatSizes) (formats : List Format) (entries : List FormatPlans) : Type 0 where
  pub each : length entries ≡ length formats
  pub made : (n : ℕ) (format : Format) (sizes : FormatSizes) (entry : FormatPlans) → slice_get formats n ≡ Some format → slice_get bounds n ≡ Some sizes → slice_get entries n ≡ Some entry → IsFormatMade version table sizes format entry

-- of a method that has formats its tree of the order, within the limits, and those
pub record IsMethodMade (version : Version) (table : List MethodSizes) (m : Method) (s : MethodSizes) (entry : MethodPlans) : Type 0 where
  pub tree : List Node
  pub formats : List FormatPlans
  pub is : entry ≡ of_method m tree formats
  pub used : 0 < length m.formats
  pub ordered : OrderedTree version m.formats s tree
  pub kept : IsTreeKept tree
  pub made : AreFormatsMade version table s.formats m.formats formats

-- of another method nothing
abbrev pub IsEntryMade : Version → List MethodSizes → Method → MethodSizes → Option MethodPlans → Type 0
IsEntryMade version table m s None = m.formats ≡ []
IsEntryMade version table m s (Some entry) = IsMethodMade version table m s entry

-- of each method
pub record AreMade (version : Version) (methods : List Method) (table : List MethodSizes) (entries : Entries) : Type 0 where
  pub each : length entries ≡ length methods
  pub made : (k : ℕ) (m : Method) (s : MethodSizes) (entry : Option MethodPlans) → slice_get methods k ≡ Some m → slice_get table k ≡ Some s → slice_get entries k ≡ Some entry → IsEntryMade version table m s entry

-- ---- why there is nothing

-- for methods whose method k has as its format n this one, with these bounds, after what is there
abbrev pub FormatLacks : Version → List MethodSizes → ℕ → ℕ → FormatSizes → Format → Unproved → Type 0
FormatLacks version table k n sizes format why =
    (methods : List Method) (m : Method) (s : MethodSizes) → slice_get methods k ≡ Some m → slice_get table k ≡ Some s → slice_get m.formats n ≡ Some format → slice_get s.formats n ≡ Some sizes → FormatsBefore version methods table k n m s → Lacks version methods table why

-- for methods whose method k has these formats, with these bounds, and its tree
abbrev pub FormatsLack : Version → List MethodSizes → ℕ → List FormatSizes → List Format → Unproved → Type 0
FormatsLack version table k bounds formats why =
    (methods : List Method) (m : Method) (s : MethodSizes) → slice_get methods k ≡ Some m → slice_get table k ≡ Some s → m.formats ≡ formats → s.formats ≡ bounds → MethodsBefore version methods table k → HasTree version m s → Lacks version methods table why

-- for methods whose method k is this one, with these bounds, after what is there
abbrev pub MethodLacks : Version → List MethodSizes → ℕ → Method → MethodSizes → Unproved → Type 0
MethodLacks version table k m s why = (methods : List Method) → slice_get methods k ≡ Some m → slice_get table k ≡ Some s → MethodsBefore version methods table k → Lacks version methods table why
