-- What a filling chooses, in the order of the write plans: as a code, and as a number among the candidates of its method (docs/DEFINITIONS.md, Candidates).
use Rattle.std.specs.Prelude.{◌≡◌, ℕ, ◌+◌, ◌*◌, ◌<◌, Bool, List, [], ◌∷◌, map, take, slice_get, Option, Some, None, option_and_then, option_map}
use Rattle.std.specs.List.{flat_map}
use Rattle.sem_bits.specs.Number.{num}
use Rattle.sem_profile.specs.declared.profile.Format.{Format}
use Rattle.sem_profile.specs.declared.profile.Method.{Method}
use Rattle.sem_filling.specs.declared.filling.Filling.{Filling, out-Filling}
use Rattle.sem_filling.specs.declared.filling.FilledField.{FilledField}
use Rattle.sem_filling.specs.declared.filling.FilledField.TheOpen.{FilledField-F, Filling-F}
use Rattle.sem_filling.specs.declared.filling.FilledField.TheFolds.{fold-Filling}
use Rattle.sem_filling.specs.Fillings.{sides_of, inner_of, fields_of, inner_at}
use Rattle.sem_filling.specs.Fits.{format_at}
use Rattle.cert_types.specs.declared.certificate.Step.{Step}
use Rattle.cert_types.specs.declared.certificate.Step.TheVariants.{Call, Choose}
use Rattle.cert_types.specs.declared.certificate.Plans.{Plans}
use Rattle.cert_types.specs.declared.certificate.MethodPlans.{MethodPlans}
use Rattle.cert_types.specs.Kept.{Entries}
use Rattle.cert_rules.specs.Counts.{callee, ways, plan_ways, method_ways, entry_at}
use Rattle.cert_rules.specs.Valid.{plans_at}

-- of a field: its uncompressed bits, and what is made of the filling inside it, by the method that it fills
pub record Shown (A : Type 0) : Type 0 where
  pub bits : List Bool
  pub inner : Option (ℕ → A)

-- its bits, none where there is no field
abbrev pub shown_bits : {A : Type 0} → Option (Shown A) → List Bool
shown_bits None = []
shown_bits (Some g) = g.bits

-- what is made of the filling inside by the method that it fills, else what stands for none
abbrev pub inner_for : {A : Type 0} → A → Option ℕ → Option (ℕ → A) → A
inner_for none (Some k) (Some make) = make k
inner_for none (Some k) None = none
inner_for none None o = none

-- the method that the field at an index calls
abbrev pub called_at : Format → ℕ → Option ℕ
called_at format i = option_and_then (λ d. callee d.encoding) (slice_get format.fields i)

-- what is made of the filling inside the field at an index, by the method that it calls
abbrev pub shown_inner : {A : Type 0} → A → Format → List (Shown A) → ℕ → A
shown_inner none format gs i = inner_for none (called_at format i) (option_and_then (λ g. g.inner) (slice_get gs i))

-- the write plan of a format of the method k
abbrev pub write_plan : Entries → ℕ → ℕ → Option Plans
write_plan cert k n = option_and_then (λ entry. plans_at entry n) (entry_at cert k)

-- a field of a filling whose inner fillings are folded
abbrev pub show_field : {A : Type 0} → FilledField-F (Shown A) (ℕ → A) → Shown A
show_field g = record { bits = g.uncompressed; inner = g.inner }

-- ---- codes

-- what a step adds to the code: the number of the chosen bits, or the code of the inner filling
abbrev pub step_code : Format → List (Shown (List ℕ)) → Step → List ℕ
step_code format gs (Choose i) = num (shown_bits (slice_get gs i)) ∷ []
step_code format gs (Call i) = shown_inner [] format gs i
step_code format gs _ = []

-- the code of the steps of the write plan
abbrev pub plan_code : List (Shown (List ℕ)) → Option Format → Option Plans → List ℕ
plan_code gs (Some format) (Some plans) = flat_map (step_code format gs) plans.write
plan_code gs (Some format) None = []
plan_code gs None o = []

-- the code of a level, by those of the fillings inside
abbrev pub level_code : List Method → Entries → Filling-F (Shown (List ℕ)) (ℕ → List ℕ) → ℕ → List ℕ
level_code methods cert f k = f.format ∷ plan_code f.fields (format_at methods k f.format) (write_plan cert k f.format)

-- The code of a filling of the method: its format, and then for each `choose` and `call` step of the format's write plan
-- in turn the number of the chosen bits, or the code of the inner filling.
abbrev pub code : List Method → Entries → Filling → ℕ → List ℕ
code methods cert = fold-Filling (Shown (List ℕ)) (ℕ → List ℕ) show_field (level_code methods cert)

-- ---- numbers

-- the digit of a step: the number of the chosen bits, or that of the inner filling
abbrev pub step_digit : Format → List (Shown ℕ) → Step → ℕ
step_digit format gs (Choose i) = num (shown_bits (slice_get gs i))
step_digit format gs (Call i) = shown_inner 0 format gs i
step_digit format gs _ = 0

-- the digits of the steps as one number, the first digit slowest
abbrev pub place : List ℕ → Format → List (Shown ℕ) → List Step → ℕ
place counts format gs [] = 0
place counts format gs (step ∷ steps) = step_digit format gs step * plan_ways counts format steps + place counts format gs steps

-- the candidates of the first n formats of a method
abbrev pub ways_in : List ℕ → ℕ → Option Method → Option MethodPlans → ℕ
ways_in counts n (Some m) (Some entry) = method_ways counts (take n m.formats) (take n entry.formats)
ways_in counts n (Some m) None = 0
ways_in counts n None o = 0

-- those of the method k
abbrev pub ways_before : List Method → Entries → List ℕ → ℕ → ℕ → ℕ
ways_before methods cert counts k n = ways_in counts n (slice_get methods k) (entry_at cert k)

-- the digits of the steps of the write plan
abbrev pub plan_number : List ℕ → List (Shown ℕ) → Option Format → Option Plans → ℕ
plan_number counts gs (Some format) (Some plans) = place counts format gs plans.write
plan_number counts gs (Some format) None = 0
plan_number counts gs None o = 0

-- the number of a level, by those of the fillings inside
abbrev pub level_number : List Method → Entries → List ℕ → Filling-F (Shown ℕ) (ℕ → ℕ) → ℕ → ℕ
level_number methods cert counts f k = ways_before methods cert counts k f.format + plan_number counts f.fields (format_at methods k f.format) (write_plan cert k f.format)

-- The number of a filling among the candidates of the method: those of the formats before its own, and then its digits.
abbrev pub number : List Method → Entries → List ℕ → Filling → ℕ → ℕ
number methods cert counts = fold-Filling (Shown ℕ) (ℕ → ℕ) show_field (level_number methods cert counts)

-- ---- candidates

-- what is made of a field
abbrev pub show : {A : Type 0} → (Filling → ℕ → A) → FilledField → Shown A
show make g = record { bits = (sides_of g).uncompressed; inner = option_map make (inner_of g) }

-- the fields of a filling, with the numbers of the fillings inside
abbrev pub numbers_in : List Method → Entries → List ℕ → Filling → List (Shown ℕ)
numbers_in methods cert counts f = map (show (number methods cert counts)) (fields_of f)

-- the same with their codes
abbrev pub codes_in : List Method → Entries → Filling → List (Shown (List ℕ))
codes_in methods cert f = map (show (code methods cert)) (fields_of f)

-- the field calls a method, and has a filling for it
pub record IsCalled (format : Format) (f : Filling) (i : ℕ) : Type 0 where
  pub method : ℕ
  pub inner : Filling
  pub calls : called_at format i ≡ Some method
  pub filled : inner_at f i ≡ Some inner

-- A filling whose every chosen value is among those that are tried, and so for the fillings inside it.
pub data IsCandidate (methods : List Method) (cert : Entries) (counts : List ℕ) : ℕ → Filling → Type 0 where
  candidate : {k : ℕ} {f : Filling} (format : Format) (plans : Plans) →
      format_at methods k (out-Filling f).format ≡ Some format →
      write_plan cert k (out-Filling f).format ≡ Some plans →
      ((j i : ℕ) → slice_get plans.write j ≡ Some (Choose i) → num (shown_bits (slice_get (numbers_in methods cert counts f) i)) < ways counts format (Choose i)) →
      ((j i : ℕ) → slice_get plans.write j ≡ Some (Call i) → IsCalled format f i) →
      ((j i c : ℕ) (inner : Filling) → slice_get plans.write j ≡ Some (Call i) → called_at format i ≡ Some c → inner_at f i ≡ Some inner → IsCandidate methods cert counts c inner) →
      IsCandidate methods cert counts k f
