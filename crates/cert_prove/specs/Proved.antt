-- What the prover answers: a certificate of the order, or why there is none (docs/DEFINITIONS.md, The prover).
use Rattle.std.specs.Prelude.{◌≡◌, ℕ, ◌<◌, ◌≤◌, List, length, Some, slice_get}
use Rattle.sem_profile.specs.declared.profile.Format.{Format}
use Rattle.sem_profile.specs.declared.profile.Method.{Method}
use Rattle.sem_profile.specs.declared.profile.FormatSizes.{FormatSizes}
use Rattle.sem_profile.specs.declared.profile.MethodSizes.{MethodSizes}
use Rattle.cert_types.specs.declared.certificate.Version.{Version}
use Rattle.cert_types.specs.declared.certificate.Direction.{Direction}
use Rattle.cert_text.specs.Faults.{text_limit}
use Rattle.cert_types.specs.declared.certificate.Direction.TheVariants.{Read, Write}
use Rattle.cert_types.specs.declared.certificate.Node.{Node}
use Rattle.cert_types.specs.declared.certificate.Step.{Step}
use Rattle.cert_types.specs.Kept.{Certified, IsTreeKept, IsPlanKept}
use Rattle.cert_text.specs.Text.{certificate_text}
use Rattle.sem_profile.specs.Resolved.{Resolved}
use Rattle.cert_rules.specs.Plans.{way_of}
use Rattle.cert_prove.specs.declared.fault.FieldSide.{FieldSide}
use Rattle.cert_prove.specs.Order.{order_of}
use Rattle.cert_prove.specs.Ordered as order
use Rattle.cert_prove.specs.Ordered.{OrderedPlan}
use Rattle.cert_prove.specs.Refusals.{NeverLearns}
use Rattle.cert_prove.specs.Growing as parting
use Rattle.cert_prove.specs.Growing.{OrderedTree, ComesToStuck}
use Rattle.cert_prove.specs.declared.unproved.Unproved.{Unproved}
use Rattle.cert_prove.specs.declared.unproved.Unproved.TheVariants.{NoPlan, NoTree, Limit, OutOfMemory}
use Rattle.cert_prove.specs.OrderedFormats.{IsOrdered}

-- a certificate of the order, of that version, whose text is no longer than a text may be
pub record IsProved (version : Version) (p : Resolved) (cert : Certified) : Type 0 where
  pub version_is : cert.version ≡ version
  pub ordered : IsOrdered p.methods p.sizes cert
  pub short : length (certificate_text cert) ≤ text_limit

-- the method k with its bounds
pub record MethodAt (methods : List Method) (table : List MethodSizes) (k : ℕ) (m : Method) (s : MethodSizes) : Type 0 where
  pub method_at : slice_get methods k ≡ Some m
  pub sizes_at : slice_get table k ≡ Some s

-- the format n of the method k, with its bounds
pub record FormatAt (methods : List Method) (table : List MethodSizes) (k n : ℕ) (format : Format) (sizes : FormatSizes) : Type 0 where
  pub method : Method
  pub whole : MethodSizes
  pub method_at : slice_get methods k ≡ Some method
  pub whole_at : slice_get table k ≡ Some whole
  pub format_at : slice_get method.formats n ≡ Some format
  pub sizes_at : slice_get whole.formats n ≡ Some sizes

-- ---- what comes before, in the order of the prover: a tree before the plans of its method, a plan to read before that to write

-- the method has the tree of the order, within the limits of certificates
pub record HasTree (version : Version) (m : Method) (s : MethodSizes) : Type 0 where
  pub tree : List Node
  pub ordered : OrderedTree version m.formats s tree
  pub kept : IsTreeKept tree

-- the format has the plan of the order in that direction, within the limits
pub record HasPlan (version : Version) (direction : Direction) (table : List MethodSizes) (sizes : FormatSizes) (format : Format) : Type 0 where
  pub steps : List Step
  pub ordered : OrderedPlan (way_of version direction table sizes format) (order_of direction format) steps
  pub kept : IsPlanKept steps

-- the formats of the method before this one have both plans
abbrev pub PlansBefore : Version → List MethodSizes → Method → MethodSizes → ℕ → Type 0
PlansBefore version table m s n =
    (j : ℕ) (format : Format) (sizes : FormatSizes) → j < n → slice_get m.formats j ≡ Some format → slice_get s.formats j ≡ Some sizes → HasPlan version Read table sizes format × HasPlan version Write table sizes format

-- of a method with formats, the tree and all plans
pub record HasAll (version : Version) (table : List MethodSizes) (m : Method) (s : MethodSizes) : Type 0 where
  pub tree : HasTree version m s
  pub plans : PlansBefore version table m s (length m.formats)

-- each method before k has what it needs
abbrev pub MethodsBefore : Version → List Method → List MethodSizes → ℕ → Type 0
MethodsBefore version methods table k = (j : ℕ) (m : Method) (s : MethodSizes) → j < k → MethodAt methods table j m s → 0 < length m.formats → HasAll version table m s

-- and of k the tree, and the plans of the formats before n
pub record FormatsBefore (version : Version) (methods : List Method) (table : List MethodSizes) (k n : ℕ) (m : Method) (s : MethodSizes) : Type 0 where
  pub methods_before : MethodsBefore version methods table k
  pub tree : HasTree version m s
  pub plans : PlansBefore version table m s n

-- and of n the plan to read, where that to write comes next
abbrev pub ReadBefore : Version → Direction → List MethodSizes → FormatSizes → Format → Type 0
ReadBefore version Read table sizes format = Unit {0}
ReadBefore version Write table sizes format = HasPlan version Read table sizes format

-- all that comes before a plan of the format
pub record AllBefore (version : Version) (methods : List Method) (table : List MethodSizes) (k n : ℕ) (direction : Direction) (format : Format) (sizes : FormatSizes) (at : FormatAt methods table k n format sizes) : Type 0 where
  pub formats : FormatsBefore version methods table k n at.method at.whole
  pub read : ReadBefore version direction table sizes format

-- ---- what isn't there

-- its closure in that direction lacks just these sides
pub record LacksPlan (version : Version) (methods : List Method) (table : List MethodSizes) (k n : ℕ) (direction : Direction) (sides : List FieldSide) : Type 0 where
  pub format : Format
  pub bounds : FormatSizes
  pub at : FormatAt methods table k n format bounds
  pub never : NeverLearns (way_of version direction table bounds format) sides
  pub before : AllBefore version methods table k n direction format bounds at

-- the tree of the order comes to a set of its formats that no test parts, of which these are the first two
pub record LacksTree (version : Version) (methods : List Method) (table : List MethodSizes) (k first second : ℕ) : Type 0 where
  pub method : Method
  pub sizes : MethodSizes
  pub at : MethodAt methods table k method sizes
  pub stuck : ComesToStuck version method.formats sizes first second
  pub before : MethodsBefore version methods table k

-- A tree or a plan of the order passes a limit of certificates, after what is within them; or all are there, and the text of the whole passes its own.
pub data PassesLimit (version : Version) (methods : List Method) (table : List MethodSizes) : Type 0 where
  by_tree : {k : ℕ} {m : Method} {s : MethodSizes} → MethodAt methods table k m s → parting.PassesLimit version m.formats s → MethodsBefore version methods table k → PassesLimit version methods table
  by_plan : {k n : ℕ} {format : Format} {sizes : FormatSizes} (direction : Direction) → (at : FormatAt methods table k n format sizes) → order.PassesLimit (way_of version direction table sizes format) (order_of direction format) →
      AllBefore version methods table k n direction format sizes at → PassesLimit version methods table
  by_text : (cert : Certified) → cert.version ≡ version → IsOrdered methods table cert → text_limit < length (certificate_text cert) → PassesLimit version methods table

-- what a refusal says of methods and their bounds
abbrev pub Lacks : Version → List Method → List MethodSizes → Unproved → Type 0
Lacks version methods table (NoPlan k n direction sides) = LacksPlan version methods table k n direction sides
Lacks version methods table (NoTree k first second) = LacksTree version methods table k first second
Lacks version methods table Limit = PassesLimit version methods table
Lacks version methods table OutOfMemory = Unit {0}

-- of a profile
abbrev pub IsUnproved : Version → Resolved → Unproved → Type 0
IsUnproved version p why = Lacks version p.methods p.sizes why
