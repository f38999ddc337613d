use Rattle.std.specs.Prelude.{◌≡◌, ℕ, ◌<◌, Bool, true, false, List, length, slice_index}
use Rattle.std.specs.Prelude.{slice_index_or, [], ◌∷◌, suc}

-- the list names it
abbrev pub Has : List ℕ → ℕ → Type 0
Has names k = (n : ℕ) × (n < length names) × (slice_index names n ≡ k)

abbrev pub Marked : List Bool → ℕ → Type 0
Marked marks k = slice_index_or marks k false ≡ true

-- the first method calls the second
abbrev pub Calls : List (List ℕ) → ℕ → ℕ → Type 0
Calls graph i j = (i < length graph) × Has (slice_index_or graph i []) j

-- the first method reaches the second, by one call or more
pub data Reaches (To : ℕ → ℕ → Type 0) : ℕ → ℕ → Type 0 where
  by_call : {i j : ℕ} → To i j → Reaches To i j
  further : {i j k : ℕ} → Reaches To i j → To j k → Reaches To i k

abbrev pub Within : List (List ℕ) → Type 0
Within graph = (i j : ℕ) → Calls graph i j → j < length graph

-- a mark for each method, set where the method is reached from this one
pub record Reached (graph : List (List ℕ)) (from : ℕ) (marks : List Bool) : Type 0 where
  pub each : length marks ≡ length graph
  pub only : (k : ℕ) → Marked marks k → Reaches (Calls graph) from k
  pub all : (k : ℕ) → Reaches (Calls graph) from k → Marked marks k

-- how many methods are marked
abbrev pub marked : List Bool → ℕ
marked [] = 0
marked (true ∷ marks) = suc (marked marks)
marked (false ∷ marks) = marked marks
