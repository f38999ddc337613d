-- How many candidates a profile has by a certificate, method by method and format by format, and what multiplies (docs/DEFINITIONS.md, Certificates).
use Rattle.std.specs.Prelude.{ℕ, List, [], ◌∷◌, Option, flat_map, nat_lt, option_and_then, option_map, slice_get, unwrap_or, if◌then◌else◌}
use Rattle.sem_profile.specs.declared.profile.Format.{Format}
use Rattle.sem_profile.specs.declared.profile.Method.{Method}
use Rattle.cert_types.specs.declared.certificate.Plans.{Plans}
use Rattle.cert_types.specs.declared.certificate.Step.{Step}
use Rattle.cert_types.specs.declared.certificate.Step.TheVariants.{Call, Choose}
use Rattle.cert_types.specs.Kept.{Entries}
use Rattle.cert_rules.specs.Counts.{entry_at, ways}
use Rattle.cert_rules.specs.Valid.{plans_at}
use Rattle.cert_rules.specs.Capped.{AreCapped, capped}
use Rattle.cert_rules.specs.Spans.{AreSpans}
use Rattle.tool_names.specs.declared.candidates.Counts.{Counts}
use Rattle.tool_names.specs.declared.candidates.Factor.{Factor}

-- The numbers are the certificate's, as far as 64 bits go: of each method, and of each of its formats.
pub record AreCounted (methods : List Method) (cert : Entries) (counts : Counts) : Type 0 where
  pub of_methods : AreCapped methods cert counts.methods
  pub of_formats : AreSpans methods cert counts.methods counts.formats

-- the number of the method k, and of the format n of it
abbrev pub method_count : Counts → ℕ → ℕ
method_count counts k = unwrap_or (slice_get counts.methods k) 0

abbrev pub format_count : Counts → ℕ → ℕ → ℕ
format_count counts k n = unwrap_or (option_and_then (λ row. slice_get row n) (slice_get counts.formats k)) 0

-- what the certificate says of the format n of the method k, and the steps of its write plan
abbrev pub plans_of : Entries → ℕ → ℕ → Option Plans
plans_of cert k n = option_and_then (λ e. plans_at e n) (entry_at cert k)

abbrev pub write_steps : Entries → ℕ → ℕ → List Step
write_steps cert k n = unwrap_or (option_map (λ ps. ps.write) (plans_of cert k n)) []

-- a field with its number of ways, where these are several
abbrev pub several : ℕ → ℕ → List Factor
several i count = if nat_lt 1 count then record { field = i; count = count } ∷ [] else []

-- what a step multiplies the candidates of its format by, where the counts are those of methods as far as 64 bits go
abbrev pub factor_of : List ℕ → Format → Step → List Factor
factor_of counts format (Choose i) = several i (capped (ways counts format (Choose i)))
factor_of counts format (Call i) = several i (ways counts format (Call i))
factor_of counts format _ = []

abbrev pub factors_of : List ℕ → Format → List Step → List Factor
factors_of counts format steps = flat_map (factor_of counts format) steps
