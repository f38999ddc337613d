-- How far the number of a candidate is read, and how many candidates share what was read (docs/DEFINITIONS.md, Candidates).
use Rattle.std.specs.Prelude.{◌≡◌, ℕ, ◌+◌, ◌*◌, ◌≤◌, ◌<◌, List, ◌∷◌}
use Rattle.sem_profile.specs.declared.profile.Format.{Format}
use Rattle.sem_profile.specs.declared.profile.Method.{Method}
use Rattle.sem_filling.specs.declared.filling.Filling.{Filling}
use Rattle.cert_types.specs.declared.certificate.Step.{Step}
use Rattle.cert_types.specs.Kept.{Entries}
use Rattle.cert_rules.specs.Counts.{ways, plan_ways, AreCounts}
use Rattle.cert_candidates.specs.declared.digits.Digits.{Digits}
use Rattle.cert_candidates.specs.Codes.{number, numbers_in, step_digit, IsCandidate}
use Rattle.cert_candidates.specs.Digits.{HasRead, InSpan, AllRead}

-- so many ways part a span
abbrev pub Divides : ℕ → ℕ → Type 0
Divides radix span = (others : ℕ) × (radix * others ≡ span)

-- The digit is the highest of the place among so many ways; the place among the others is left.
pub record IsNext (radix : ℕ) (old : Digits) (digit : ℕ) (new : Digits) : Type 0 where
  pub digit_below : digit < radix
  pub below : new.rest < new.span
  pub span_is : radix * new.span ≡ old.span
  pub rest_is : digit * new.span + new.rest ≡ old.rest

-- Of the number c, of the format n of the method k, the digits are read up to these steps: it stands at this place among the candidates that have read the same, of which base is the least number.
pub record IsReading (methods : List Method) (cert : Entries) (counts : List ℕ) (k n : ℕ) (format : Format) (steps : List Step) (c : ℕ) (place : Digits) : Type 0 where
  pub base : ℕ
  pub all : AllRead methods cert counts k n format base steps
  pub span_is : place.span ≡ plan_ways counts format steps
  pub below : place.rest < place.span
  pub number_is : base + place.rest ≡ c

-- With the digit of its next step the same number is read so far, and the digit is that of each candidate which has read so far.
pub record ReadsOn (methods : List Method) (cert : Entries) (counts : List ℕ) (k n : ℕ) (format : Format) (step : Step) (steps : List Step) (c : ℕ) (old : Digits)
    (before : IsReading methods cert counts k n format (step ∷ steps) c old) (digit : ℕ) (new : Digits) : Type 0 where
  pub after : IsReading methods cert counts k n format steps c new
  pub base_is : after.base ≡ before.base + digit * plan_ways counts format steps
  -- what stands in the part that is left stood in the whole
  pub inside : (f : Filling) → InSpan methods cert counts k format after.base steps f → InSpan methods cert counts k format before.base (step ∷ steps) f
  pub theirs : (f : Filling) → IsCandidate methods cert counts k f → InSpan methods cert counts k format after.base steps f → step_digit format (numbers_in methods cert counts f) step ≡ digit

-- So it is of each number that stands there, where the step has so many ways.
abbrev pub CarriesOn : ℕ → Digits → ℕ → Digits → Type 0
CarriesOn radix old digit new =
    (methods : List Method) (cert : Entries) (counts : List ℕ) → AreCounts methods cert counts → (k n : ℕ) (format : Format) (step : Step) (steps : List Step) (c : ℕ) → radix ≡ ways counts format step →
    (before : IsReading methods cert counts k n format (step ∷ steps) c old) → ReadsOn methods cert counts k n format step steps c old before digit new

-- the filling has read the digits of the number so far, as all in its span
pub record Shares (methods : List Method) (cert : Entries) (counts : List ℕ) (k n : ℕ) (format : Format) (steps : List Step) (c : ℕ) (place : Digits)
    (reading : IsReading methods cert counts k n format steps c place) (f : Filling) : Type 0 where
  pub within : InSpan methods cert counts k format reading.base steps f
  pub read : HasRead methods cert counts k n format reading.base steps f

-- Of each number that stands at this place, so many candidates from it on share the digits that were read.
abbrev pub ShareDigits : Digits → ℕ → Type 0
ShareDigits place skipped =
    (methods : List Method) (cert : Entries) (counts : List ℕ) (k n : ℕ) (format : Format) (steps : List Step) (c : ℕ) (reading : IsReading methods cert counts k n format steps c place) →
    (f : Filling) → IsCandidate methods cert counts k f → c ≤ number methods cert counts f k → number methods cert counts f k < c + skipped → Shares methods cert counts k n format steps c place reading f

-- So many from it on share those before the last one, and have one of the next m digits from that on.
abbrev pub ShareUpTo : ℕ → Digits → ℕ → Type 0
ShareUpTo m place skipped =
    (methods : List Method) (cert : Entries) (counts : List ℕ) → AreCounts methods cert counts → (k n : ℕ) (format : Format) (step : Step) (steps : List Step) (c : ℕ) (old : Digits)
    (before : IsReading methods cert counts k n format (step ∷ steps) c old) (digit : ℕ) → ReadsOn methods cert counts k n format step steps c old before digit place → digit + m ≤ ways counts format step →
    (f : Filling) → IsCandidate methods cert counts k f → c ≤ number methods cert counts f k → number methods cert counts f k < c + skipped →
    Shares methods cert counts k n format (step ∷ steps) c old before f
    × (digit ≤ step_digit format (numbers_in methods cert counts f) step) × (step_digit format (numbers_in methods cert counts f) step < digit + m)
