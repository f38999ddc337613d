-- How deep calls go from the top.
use Rattle.std.specs.Prelude.{◌≡◌, ℕ, suc, ◌<◌, Bool, List, [], ◌∷◌, Option, Some, None, length, slice_get, if◌then◌else◌}
use Rattle.text_source.specs.declared.span.Span.{Span}
use Rattle.sem_graph.specs.Calls.{Calls, Marked}
use Rattle.sem_profile.specs.Faults.{about}
use Rattle.sem_profile.specs.declared.fault.ProfileFault.{ProfileFault}
use Rattle.sem_profile.specs.declared.fault.ProfileFaultKind.TheVariants as kinds
use Rattle.sem_profile.specs.Limits.{Chain, depth_limit}
use Rattle.text_resolve.specs.Reached.{is_marked_at}

-- a mark for each method, set where some chain of so many methods leads to it from the top
pub record AreEnds (graph : List (List ℕ)) (top count : ℕ) (marks : List Bool) : Type 0 where
  pub each : length marks ≡ length graph
  pub only : (j : ℕ) → Marked marks j → Chain graph top count j
  pub all : (j : ℕ) → Chain graph top count j → Marked marks j

-- a mark for each method, set where a marked one of the callers calls it
pub record AreCalled (graph : List (List ℕ)) (callers marks : List Bool) : Type 0 where
  pub each : length marks ≡ length graph
  pub only : (j : ℕ) → Marked marks j → (i : ℕ) × Marked callers i × Calls graph i j
  pub all : (i j : ℕ) → Marked callers i → Calls graph i j → Marked marks j

abbrev pub too_deep : Span → ProfileFault
too_deep name = about kinds.TooLarge name

-- the fault of the first of the methods that is marked, by the places of their names
abbrev pub first_deep : List Bool → ℕ → List Span → Option ProfileFault
first_deep marks k [] = None
first_deep marks k (name ∷ names) = if is_marked_at marks k then Some (too_deep name) else first_deep marks (suc k) names

-- some chain of one method more than the limit leads to a method, and none leads to a method before it in the text. The methods go by the places of their names
pub data IsTooDeep (graph : List (List ℕ)) (top : ℕ) (names : List Span) : ProfileFault → Type 0 where
  stands_deep : (k : ℕ) (name : Span) → slice_get names k ≡ Some name → Chain graph top (suc depth_limit) k
      → ((i : ℕ) → i < k → Chain graph top (suc depth_limit) i → ⊥) → IsTooDeep graph top names (too_deep name)
