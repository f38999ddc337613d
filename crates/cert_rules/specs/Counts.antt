-- How many candidates a certificate's write plans have (docs/DEFINITIONS.md, Certificates).
use Rattle.std.specs.Prelude.{◌≡◌, ℕ, ◌+◌, ◌*◌, ◌^◌, List, [], ◌∷◌, length, Option, Some, None, slice_get, option_and_then, option_map, unwrap_or}
use Rattle.sem_profile.specs.declared.profile.Encoding.{Encoding}
use Rattle.sem_profile.specs.declared.profile.Encoding.TheVariants as encoding
use Rattle.sem_profile.specs.declared.profile.Format.{Format}
use Rattle.sem_profile.specs.declared.profile.Method.{Method}
use Rattle.cert_types.specs.declared.certificate.Step.{Step}
use Rattle.cert_types.specs.declared.certificate.Step.TheVariants.{Call, Choose}
use Rattle.cert_types.specs.declared.certificate.Plans.{Plans}
use Rattle.cert_types.specs.declared.certificate.FormatPlans.{FormatPlans}
use Rattle.cert_types.specs.declared.certificate.MethodPlans.{MethodPlans}
use Rattle.cert_types.specs.Kept.{Entries}
use Rattle.cert_rules.specs.Rules.{choice}

-- the method that the field calls
abbrev pub callee : Encoding → Option ℕ
callee (encoding.Call k es) = Some k
callee encoding.Bare = None
callee (encoding.Library l) = None

-- in how many ways a step of a write plan goes on, by the counts of methods
abbrev pub ways : List ℕ → Format → Step → ℕ
ways counts format (Choose i) = unwrap_or (option_map (λ n. 2 ^ n) (option_and_then (choice format i) (slice_get format.fields i))) 1
ways counts format (Call i) = unwrap_or (option_and_then (slice_get counts) (option_and_then (λ d. callee d.encoding) (slice_get format.fields i))) 1
ways counts format _ = 1

-- the product over the steps
abbrev pub plan_ways : List ℕ → Format → List Step → ℕ
plan_ways counts format [] = 1
plan_ways counts format (step ∷ steps) = ways counts format step * plan_ways counts format steps

-- the candidates of a format: those of its write plan
abbrev pub format_ways : List ℕ → Format → Option Plans → ℕ
format_ways counts format None = 0
format_ways counts format (Some p) = plan_ways counts format p.write

-- the sum over the formats
abbrev pub method_ways : List ℕ → List Format → List FormatPlans → ℕ
method_ways counts [] entries = 0
method_ways counts (format ∷ formats) [] = 0
method_ways counts (format ∷ formats) (entry ∷ entries) = format_ways counts format entry.plans + method_ways counts formats entries

-- those of a method, by its entry
abbrev pub entry_ways : List ℕ → List Format → Option MethodPlans → ℕ
entry_ways counts formats None = 0
entry_ways counts formats (Some entry) = method_ways counts formats entry.formats

-- what the certificate says of the method
abbrev pub entry_at : Entries → ℕ → Option MethodPlans
entry_at cert k = option_and_then (λ o. o) (slice_get cert k)

-- The numbers of candidates of each method: each by those of the methods that it calls.
pub record AreCounts (methods : List Method) (cert : Entries) (counts : List ℕ) : Type 0 where
  pub each : length counts ≡ length methods
  pub right : (k n : ℕ) (m : Method) → slice_get methods k ≡ Some m → slice_get counts k ≡ Some n → n ≡ entry_ways counts m.formats (entry_at cert k)
