-- What is counted along the calls.
use Rattle.std.specs.Prelude.{◌≡◌, ◌+◌, ℕ, ◌<◌, List, [], ◌∷◌, Option, Some, None, length, slice_index_or, slice_get, max, min}
use Rattle.std.specs.List.{sum_by}

-- the number at the place
abbrev pub number_at : List ℕ → ℕ → ℕ
number_at values i = slice_index_or values i 0

-- the greatest of the numbers, or 0
abbrev pub greatest_by : {X : Type 0} → (X → ℕ) → List X → ℕ
greatest_by f [] = 0
greatest_by f (x ∷ xs) = max (f x) (greatest_by f xs)

-- greater weights are counted as this
abbrev pub weight_cap : ℕ
weight_cap = 4097

-- a field, and what the method weighs that encodes it
abbrev pub field_weight : List ℕ → Option ℕ → ℕ
field_weight weights None = 1
field_weight weights (Some j) = number_at weights j + 1

abbrev pub format_weight : List ℕ → List (Option ℕ) → ℕ
format_weight weights fields = min weight_cap (sum_by (field_weight weights) fields)

-- the weight of the heaviest format
abbrev pub weight_by : List (List (List (Option ℕ))) → List ℕ → ℕ → ℕ
weight_by methods weights i = greatest_by (format_weight weights) (slice_index_or methods i [])

pub record AreWeights (methods : List (List (List (Option ℕ)))) (weights : List ℕ) : Type 0 where
  pub each : length weights ≡ length methods
  pub rule : (i : ℕ) → i < length methods → number_at weights i ≡ weight_by methods weights i

-- a field of the method is encoded by the other one
pub record FieldCalls (methods : List (List (List (Option ℕ)))) (i j : ℕ) : Type 0 where
  pub format : ℕ
  pub field : ℕ
  pub fields : List (Option ℕ)
  pub formats_at : slice_get (slice_index_or methods i []) format ≡ Some fields
  pub at : slice_get fields field ≡ Some (Some j)
