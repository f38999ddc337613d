-- A certificate of the prover's order (docs/DEFINITIONS.md, The prover).
use Rattle.std.specs.Prelude.{◌≡◌, ℕ, List, Some, slice_get}
use Rattle.sem_profile.specs.declared.profile.Format.{Format}
use Rattle.sem_profile.specs.declared.profile.Method.{Method}
use Rattle.sem_profile.specs.declared.profile.FormatSizes.{FormatSizes}
use Rattle.sem_profile.specs.declared.profile.MethodSizes.{MethodSizes}
use Rattle.cert_types.specs.declared.certificate.Version.{Version}
use Rattle.cert_types.specs.declared.certificate.Direction.TheVariants.{Read, Write}
use Rattle.cert_types.specs.declared.certificate.Plans.{Plans}
use Rattle.cert_types.specs.declared.certificate.MethodPlans.{MethodPlans}
use Rattle.cert_types.specs.Kept.{Certified, Entries}
use Rattle.cert_types.specs.Of.{IsOf}
use Rattle.cert_rules.specs.Counts.{entry_at}
use Rattle.cert_rules.specs.Plans.{way_of}
use Rattle.cert_rules.specs.Valid.{plans_at}
use Rattle.cert_prove.specs.Order.{order_of}
use Rattle.cert_prove.specs.Ordered.{OrderedPlan}
use Rattle.cert_prove.specs.Growing.{OrderedTree}

-- both plans are those of the order
pub record AreOrdered (version : Version) (table : List MethodSizes) (sizes : FormatSizes) (format : Format) (plans : Plans) : Type 0 where
  pub read : OrderedPlan (way_of version Read table sizes format) (order_of Read format) plans.read
  pub write : OrderedPlan (way_of version Write table sizes format) (order_of Write format) plans.write

-- the format n has such plans
pub record HasOrderedPlans (version : Version) (table : List MethodSizes) (sizes : FormatSizes) (format : Format) (entry : MethodPlans) (n : ℕ) : Type 0 where
  pub plans : Plans
  pub plans_are : plans_at entry n ≡ Some plans
  pub ordered : AreOrdered version table sizes format plans

-- the method k has the tree of the order, and each of its formats the plans
pub record HasOrderedEntry (version : Version) (table : List MethodSizes) (m : Method) (s : MethodSizes) (cert : Entries) (k : ℕ) : Type 0 where
  pub entry : MethodPlans
  pub entry_is : entry_at cert k ≡ Some entry
  pub tree : OrderedTree version m.formats s entry.tree
  pub formats : (n : ℕ) (format : Format) (sizes : FormatSizes) → slice_get m.formats n ≡ Some format → slice_get s.formats n ≡ Some sizes → HasOrderedPlans version table sizes format entry n

-- Each method that has formats has them, by the rules of its version, and the certificate says nothing of other methods and formats.
pub record IsOrdered (methods : List Method) (table : List MethodSizes) (cert : Certified) : Type 0 where
  pub entries : (k : ℕ) (m : Method) (s : MethodSizes) (first : Format) → slice_get methods k ≡ Some m → slice_get table k ≡ Some s → slice_get m.formats 0 ≡ Some first → HasOrderedEntry cert.version table m s cert.methods k
  pub of : IsOf methods cert.methods
