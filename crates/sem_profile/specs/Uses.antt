-- The calls in use: what the formats of resolved methods call.
use Rattle.std.specs.Prelude.{◌≡◌, ℕ, ◌⊎◌, List, [], Option, Some, None, length, map, slice_get}
use Rattle.std.specs.List.{filter_map, flat_map}
use Rattle.sem_profile.specs.declared.profile.Encoding.{Encoding}
use Rattle.sem_profile.specs.declared.profile.Encoding.TheVariants as encoding
use Rattle.sem_profile.specs.declared.profile.Field.{Field}
use Rattle.sem_profile.specs.declared.profile.Format.{Format}
use Rattle.sem_profile.specs.declared.profile.Method.{Method}
use Rattle.sem_graph.specs.Calls.{Reaches}
use Rattle.sem_profile.specs.Methods.{CallsMethod}

-- a field of a format of the method is encoded by the other one
pub record Uses (methods : List Method) (i j : ℕ) : Type 0 where
  pub method : Method
  pub at : slice_get methods i ≡ Some method
  pub calls : CallsMethod method j

-- the method that an encoding calls
abbrev pub callee_of : Encoding → Option ℕ
callee_of (encoding.Call k arguments) = Some k
callee_of (encoding.Library library) = None
callee_of encoding.Bare = None

-- the callee of each field of a format; and of each format of a method
abbrev pub format_uses : Format → List (Option ℕ)
format_uses format = map (λ d. callee_of d.encoding) format.fields

abbrev pub method_uses : Method → List (List (Option ℕ))
method_uses method = map format_uses method.formats

-- the callees of each field of each format of each method
abbrev pub uses_of : List Method → List (List (List (Option ℕ)))
uses_of methods = map method_uses methods

-- all that the fields call, and all that the formats of a method call
abbrev pub callees_of_fields : List Field → List ℕ
callees_of_fields fields = filter_map (λ d. callee_of d.encoding) fields

abbrev pub used_methods : Method → List ℕ
used_methods method = flat_map (λ f. callees_of_fields f.fields) method.formats

-- for each method all that it calls
abbrev pub used_graph : List Method → List (List ℕ)
used_graph methods = map used_methods methods

-- the top reaches it, by the calls in use, or it is the top
abbrev pub IsReached : List Method → ℕ → ℕ → Type 0
IsReached methods top k = (k ≡ top) ⊎ Reaches (Uses methods) top k

abbrev pub without_formats : Method → Method
without_formats method = record { name = method.name; place = method.place; parameters = method.parameters; formats = [] }

-- the methods that the top reaches as they are, the others without formats
pub record AreReached (methods : List Method) (top : ℕ) (kept : List Method) : Type 0 where
  pub each : length kept ≡ length methods
  pub reached : (k : ℕ) (m : Method) → slice_get methods k ≡ Some m → IsReached methods top k → slice_get kept k ≡ Some m
  pub unreached : (k : ℕ) (m : Method) → slice_get methods k ≡ Some m → (IsReached methods top k → ⊥) → slice_get kept k ≡ Some (without_formats m)
