-- Calls that lead back to the method that makes them.
use Rattle.std.specs.Prelude.{◌≡◌, ◌||◌, ℕ, suc, Bool, false, List, [], ◌∷◌, Option, Some, None, slice_get}
use Rattle.std.specs.List.{find, list_any}
use Rattle.std.specs.Option.{option_map, option_or}
use Rattle.text_source.specs.declared.span.Span.{Span}
use Rattle.text_tree.specs.declared.tree.Method.{Method}
use Rattle.text_tree.specs.declared.tree.Part.{Part}
use Rattle.sem_graph.specs.Order.{leads_back, LeadsBack}
use Rattle.sem_profile.specs.declared.fault.ProfileFault.{ProfileFault}
use Rattle.sem_profile.specs.declared.fault.ProfileFaultKind.TheVariants as kinds
use Rattle.text_resolve.specs.declared.calls.CallSite.{CallSite}
use Rattle.text_resolve.specs.Parts.{methods_of, method_names}
use Rattle.text_resolve.specs.Calls.{calls_from, graph_of}

-- the fault of a method whose call leads back to it
abbrev pub recursive : Span → CallSite → ProfileFault
recursive caller call = record { kind = kinds.Recursion; at = call.at; first = Some caller; second = Some call.at }

-- the first of the calls that leads back, by what each method reaches
abbrev pub back_in : List (List Bool) → ℕ → List CallSite → Option CallSite
back_in table caller calls = find (λ c. leads_back table caller c.method) calls

abbrev pub first_back : List (List Bool) → List ℕ → List (List ℕ) → ℕ → List Method → Option ProfileFault
first_back table text methods k [] = None
first_back table text methods k (m ∷ ms) = option_or (option_map (recursive m.name) (back_in table k (calls_from text methods m))) (first_back table text methods (suc k) ms)

-- a method calls one that leads back, where these are the methods that each calls, of which the first has the number
abbrev pub is_any_back : List (List Bool) → ℕ → List (List ℕ) → Bool
is_any_back table k [] = false
is_any_back table k (callees ∷ rest) = list_any (leads_back table k) callees || is_any_back table (suc k) rest

-- a call of the file leads to a method that is, or reaches, the one that makes it
pub data IsRecursive (text : List ℕ) (parts : List Part) : ProfileFault → Type 0 where
  calls_back : (k n : ℕ) (m : Method) (c : CallSite) → slice_get (methods_of parts) k ≡ Some m → slice_get (calls_from text (method_names text parts) m) n ≡ Some c
      → LeadsBack (graph_of text (method_names text parts) parts) k c.method → IsRecursive text parts (recursive m.name c)
