-- The limits on the methods of a profile: how deep calls go from the top, and how many fields stand on all paths.
use Rattle.std.specs.Prelude.{◌≡◌, ℕ, suc, ◌≤◌, List, Some, length, slice_get}
use Rattle.sem_graph.specs.Calls.{Calls}
use Rattle.sem_graph.specs.Measures.{number_at, AreWeights}
use Rattle.sem_profile.specs.declared.profile.Format.{Format}
use Rattle.sem_profile.specs.declared.profile.Method.{Method}
use Rattle.sem_profile.specs.Uses.{uses_of, used_graph}

-- a chain of calls from the top to this method has so many methods, both among them
pub data Chain (graph : List (List ℕ)) (top : ℕ) : ℕ → ℕ → Type 0 where
  at_top : Chain graph top 1 top
  called : {n i j : ℕ} → Chain graph top n i → Calls graph i j → Chain graph top (suc n) j

-- no chain of calls is longer
abbrev pub depth_limit : ℕ
depth_limit = 16

abbrev pub IsShallow : List (List ℕ) → ℕ → Type 0
IsShallow graph top = (j n : ℕ) → Chain graph top n j → n ≤ depth_limit

abbrev pub field_limit : ℕ
field_limit = 128

abbrev pub weight_limit : ℕ
weight_limit = 4096

-- each format of each method has at most so many fields
abbrev pub AreShort : List Method → Type 0
AreShort methods = (i k : ℕ) (m : Method) (f : Format) → slice_get methods i ≡ Some m → slice_get m.formats k ≡ Some f → length f.fields ≤ field_limit

-- the top's message has at most so many fields, with those of the methods that encode its fields
abbrev pub IsLight : List Method → ℕ → Type 0
IsLight methods top = (weights : List ℕ) → AreWeights (uses_of methods) weights → number_at weights top ≤ weight_limit

pub record IsWithinLimits (methods : List Method) (top : ℕ) : Type 0 where
  pub shallow : IsShallow (used_graph methods) top
  pub short : AreShort methods
  pub light : IsLight methods top
