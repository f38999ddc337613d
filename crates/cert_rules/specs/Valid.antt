-- When a certificate of its version is valid for a profile; it names no context and no bits (docs/DEFINITIONS.md, Certificates).
use Rattle.std.specs.Prelude.{◌≡◌, ℕ, ◌≤◌, List, Option, Some, slice_get, option_and_then}
use Rattle.sem_profile.specs.declared.profile.Format.{Format}
use Rattle.sem_profile.specs.declared.profile.Method.{Method}
use Rattle.sem_profile.specs.declared.profile.FormatSizes.{FormatSizes}
use Rattle.sem_profile.specs.declared.profile.MethodSizes.{MethodSizes}
use Rattle.cert_types.specs.declared.certificate.Version.{Version}
use Rattle.cert_types.specs.declared.certificate.Direction.TheVariants.{Read, Write}
use Rattle.cert_types.specs.declared.certificate.Plans.{Plans}
use Rattle.cert_types.specs.declared.certificate.MethodPlans.{MethodPlans}
use Rattle.cert_types.specs.Kept.{Certified, Entries, candidate_limit, packed_limit}
use Rattle.cert_rules.specs.Plans.{way_of, IsPlan}
use Rattle.cert_rules.specs.Trees.{PartsFormats}
use Rattle.cert_rules.specs.Counts.{entry_at, AreCounts}

-- what the entry says of the format
abbrev pub plans_at : MethodPlans → ℕ → Option Plans
plans_at entry n = option_and_then (λ f. f.plans) (slice_get entry.formats n)

-- both plans of a format serve
pub record HasPlans (version : Version) (table : List MethodSizes) (sizes : FormatSizes) (format : Format) (entry : MethodPlans) (n : ℕ) : Type 0 where
  pub plans : Plans
  pub plans_are : plans_at entry n ≡ Some plans
  pub read : IsPlan (way_of version Read table sizes format) plans.read
  pub write : IsPlan (way_of version Write table sizes format) plans.write

-- of the method k, of which this format is one, it has a tree that parts the formats, and plans
pub record HasEntry (version : Version) (table : List MethodSizes) (m : Method) (s : MethodSizes) (cert : Entries) (k : ℕ) : Type 0 where
  pub entry : MethodPlans
  pub entry_is : entry_at cert k ≡ Some entry
  pub tree : PartsFormats m.formats s entry.tree
  pub formats : (n : ℕ) (format : Format) (sizes : FormatSizes) → slice_get m.formats n ≡ Some format → slice_get s.formats n ≡ Some sizes → HasPlans version table sizes format entry n

-- the methods that the top reaches are those that have a format
pub record Valid (methods : List Method) (table : List MethodSizes) (top : ℕ) (cert : Certified) : Type 0 where
  pub entries : (k : ℕ) (m : Method) (s : MethodSizes) (first : Format) → slice_get methods k ≡ Some m → slice_get table k ≡ Some s → slice_get m.formats 0 ≡ Some first → HasEntry cert.version table m s cert.methods k
  pub counts : List ℕ
  pub are_counts : AreCounts methods cert.methods counts
  -- the top has no more candidates than that
  pub few : (n : ℕ) → slice_get counts top ≡ Some n → n ≤ candidate_limit
  -- nor more packed bits
  pub short : (s : MethodSizes) → slice_get table top ≡ Some s → s.whole.compressed.most ≤ packed_limit
