-- How the number of a filling is made, digit by digit (docs/DEFINITIONS.md, Candidates).
use Rattle.std.specs.Prelude.{◌≡◌, ℕ, ◌+◌, ◌*◌, List, take, slice_get, Some}
use Rattle.std.specs.List.{sum}
use Rattle.sem_profile.specs.declared.profile.Format.{Format}
use Rattle.sem_filling.specs.declared.filling.Filling.{Filling}
use Rattle.sem_filling.specs.declared.filling.FilledField.{FilledField}
use Rattle.sem_filling.specs.Fillings.{inner_of}
use Rattle.cert_types.specs.declared.certificate.Step.{Step}
use Rattle.cert_rules.specs.Counts.{ways}
use Rattle.cert_candidates.specs.declared.numbers.Candidates.{Candidates}
use Rattle.cert_candidates.specs.Codes.{Shown, step_digit, number, numbers_in}
use Rattle.cert_rules.specs.Spans.{method_spans}

-- the numbers of the formats are those by the numbers of the methods
abbrev pub HasSpans : Candidates → Type 0
HasSpans c = c.spans.now ≡ method_spans c.counts.now c.methods.now c.entries.now

-- the fields of a filling, with the numbers of the fillings inside
abbrev pub numbers_inside : Candidates → Filling → List (Shown ℕ)
numbers_inside c f = numbers_in c.methods.now c.entries.now c.counts.now f

-- with the digit of the step the one number becomes the other
abbrev pub IsNumbered : List ℕ → Format → List (Shown ℕ) → Step → ℕ → ℕ → Type 0
IsNumbered counts format gs step old new = old * ways counts format step + step_digit format gs step ≡ new

-- the field has a filling inside, whose number it is by the method
abbrev pub IsInside : Candidates → FilledField → ℕ → ℕ → Type 0
IsInside c filled k n = (inner : Filling) × (inner_of filled ≡ Some inner) × (number c.methods.now c.entries.now c.counts.now inner k ≡ n)

-- the sum over the formats before one, in the method's line of the table
abbrev pub IsBefore : List (List ℕ) → ℕ → ℕ → ℕ → Type 0
IsBefore table k format n = (line : List ℕ) × (slice_get table k ≡ Some line) × (sum (take format line) ≡ n)
