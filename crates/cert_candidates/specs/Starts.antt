-- Into which format the number of a candidate falls (docs/DEFINITIONS.md, Candidates).
use Rattle.std.specs.Prelude.{◌≡◌, ℕ, ◌+◌, ◌<◌, List, take, slice_get, Some}
use Rattle.std.specs.List.{sum}
use Rattle.cert_candidates.specs.declared.digits.Start.{Start}

-- The number falls into the format: those before it have so many candidates together, and what is left of the number is a place among its own.
pub record IsStart (spans : List ℕ) (c : ℕ) (start : Start) : Type 0 where
  pub span_at : slice_get spans start.format ≡ Some start.digits.span
  pub below : start.digits.rest < start.digits.span
  pub number_is : sum (take start.format spans) + start.digits.rest ≡ c
