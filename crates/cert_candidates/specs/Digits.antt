-- The digits of the number of a candidate, read one by one in the order of the write plan (docs/DEFINITIONS.md, Candidates).
use Rattle.std.specs.Prelude.{◌≡◌, ℕ, ◌+◌, ◌≤◌, ◌<◌, List, ◌++◌, Some}
use Rattle.sem_profile.specs.declared.profile.Format.{Format}
use Rattle.sem_profile.specs.declared.profile.Method.{Method}
use Rattle.sem_filling.specs.declared.filling.Filling.{Filling, out-Filling}
use Rattle.sem_filling.specs.Fits.{format_at}
use Rattle.cert_types.specs.declared.certificate.Step.{Step}
use Rattle.cert_types.specs.declared.certificate.Plans.{Plans}
use Rattle.cert_types.specs.Kept.{Entries}
use Rattle.cert_candidates.specs.Codes.{number, numbers_in, place, write_plan, IsCandidate}
use Rattle.cert_rules.specs.Counts.{plan_ways}

-- The filling has the format n of the method k, and the digits read so far: base is the least number with these, and the steps are left.
pub record HasRead (methods : List Method) (cert : Entries) (counts : List ℕ) (k n : ℕ) (format : Format) (base : ℕ) (steps : List Step) (f : Filling) : Type 0 where
  pub format_is : (out-Filling f).format ≡ n
  pub at : format_at methods k n ≡ Some format
  pub plans : Plans
  pub plans_are : write_plan cert k n ≡ Some plans
  pub done : List Step
  pub so_far : plans.write ≡ done ++ steps
  pub number_is : number methods cert counts f k ≡ base + place counts format (numbers_in methods cert counts f) steps

-- the number is one of those from base on that the digits of the steps that are left make
pub record InSpan (methods : List Method) (cert : Entries) (counts : List ℕ) (k : ℕ) (format : Format) (base : ℕ) (steps : List Step) (f : Filling) : Type 0 where
  pub from : base ≤ number methods cert counts f k
  pub to : number methods cert counts f k < base + plan_ways counts format steps

-- the candidates of that span have all read the same digits so far
abbrev pub AllRead : List Method → Entries → List ℕ → ℕ → ℕ → Format → ℕ → List Step → Type 0
AllRead methods cert counts k n format base steps = (f : Filling) → IsCandidate methods cert counts k f → InSpan methods cert counts k format base steps f → HasRead methods cert counts k n format base steps f
