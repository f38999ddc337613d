use Rattle.std.specs.Prelude.{◌≡◌, ◌==◌, ◌||◌, ℕ, ◌<◌, ◌⊎◌, Bool, List, length, slice_index_or, slice_get, unwrap_or, Some, false, []}
use Rattle.sem_graph.specs.Calls.{Calls, Reaches, Reached, Within, marked}

-- the marks of each method
abbrev pub Table : List (List ℕ) → List (List Bool) → Type 0
Table graph table = (i : ℕ) → i < length graph → Reached graph i (slice_index_or table i [])

-- a call leads back to the method that makes it
abbrev pub LeadsBack : List (List ℕ) → ℕ → ℕ → Type 0
LeadsBack graph caller callee = (callee ≡ caller) ⊎ Reaches (Calls graph) callee caller

-- by the marks of each method, the first reaches the second
abbrev pub is_marked : List (List Bool) → ℕ → ℕ → Bool
is_marked table i k = unwrap_or (slice_get (unwrap_or (slice_get table i) []) k) false

-- by the marks of each method, a call leads back to its caller
abbrev pub leads_back : List (List Bool) → ℕ → ℕ → Bool
leads_back table caller callee = callee == caller || is_marked table callee caller

-- no method reaches itself
abbrev pub NoReturn : List (List ℕ) → Type 0
NoReturn graph = (i : ℕ) → Reaches (Calls graph) i i → ⊥

-- where no call leads back, no method reaches itself
abbrev pub CallsDecide : Type 0
CallsDecide = (graph : List (List ℕ)) → ((i j : ℕ) → Calls graph i j → LeadsBack graph i j → ⊥) → NoReturn graph

-- a method's rank: how many methods it reaches
abbrev pub rank : List (List Bool) → ℕ → ℕ
rank table i = marked (slice_index_or table i [])

-- each call leads to a method of smaller rank
abbrev pub Ranked : List (List ℕ) → (ℕ → ℕ) → Type 0
Ranked graph rank_of = (i j : ℕ) → Calls graph i j → rank_of j < rank_of i

abbrev pub RanksFall : Type 0
RanksFall = (graph : List (List ℕ)) (table : List (List Bool)) → Within graph → Table graph table → NoReturn graph → Ranked graph (rank table)

-- the method stands in the order, below the place
abbrev pub Stands : List ℕ → ℕ → ℕ → Type 0
Stands order below i = (p : ℕ) × (p < below) × (slice_get order p ≡ Some i)

-- each method below the count stands at one place, and what it calls stands before it
pub record IsOrder (To : ℕ → ℕ → Type 0) (count : ℕ) (order : List ℕ) : Type 0 where
  pub each : (i : ℕ) → i < count → Stands order (length order) i
  pub only : (p i : ℕ) → slice_get order p ≡ Some i → i < count
  pub once : (p q i : ℕ) → slice_get order p ≡ Some i → slice_get order q ≡ Some i → p ≡ q
  pub callees_first : (p i j : ℕ) → slice_get order p ≡ Some i → To i j → Stands order p j

-- an order of the methods of the graph, if none reaches itself
abbrev pub Orders : List (List Bool) → List ℕ → Type 0
Orders table order = (graph : List (List ℕ)) → Within graph → length table ≡ length graph → Table graph table → NoReturn graph → IsOrder (Calls graph) (length graph) order
