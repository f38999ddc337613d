-- Which methods call a method.
use Rattle.std.specs.Prelude.{◌≡◌, Bool, false, ℕ, ◌<◌, ◌+◌, ◌-◌, nat_eq, List, [], ◌∷◌, ◌++◌, length, slice_get, Option, Some, None, if◌then◌else◌}
use Rattle.std.specs.List.{list_any}
use Rattle.std.specs.Option.{unwrap_or}
use Rattle.sem_profile.specs.declared.profile.MethodSizes.{MethodSizes}
use Rattle.sem_profile.specs.declared.profile.Method.{Method}
use Rattle.sem_expr.specs.declared.interval.Interval.{Interval}
use Rattle.sem_profile.specs.Methods.{CallsMethod}
use Rattle.sem_profile.specs.Passes.{indexed}
use Rattle.sem_profile.specs.Parameters.{calls, with_entry}

-- a field of a format of the method is a call of the method k
abbrev pub is_caller : ℕ → Method → Bool
is_caller k m = list_any (calls k) m.formats

-- the places of the methods that call the method k, each once, in rising order, counted from n
abbrev pub callers_from : ℕ → ℕ → List Method → List ℕ
callers_from k n [] = []
callers_from k n (m ∷ ms) = if is_caller k m then n ∷ callers_from k (n + 1) ms else callers_from k (n + 1) ms

-- the places of the callers of the method k
abbrev pub callers_of : ℕ → List Method → List ℕ
callers_of k methods = callers_from k 0 methods

-- for each method the places of its callers
abbrev pub caller_table : List Method → List (List ℕ)
caller_table methods = indexed (λ k m. callers_of k methods) 0 methods

-- the row of the method k, empty where there is none
abbrev pub row_at : List (List ℕ) → ℕ → List ℕ
row_at rows k = unwrap_or (slice_get rows k) []

-- it is this place
abbrev pub is_place : ℕ → Option ℕ → Bool
is_place place None = false
is_place place (Some p) = nat_eq p place

-- the last of the row is the place
abbrev pub ends_with : List ℕ → ℕ → Bool
ends_with row place = is_place place (slice_get row (length row - 1))

-- the row with the place at its end, where it isn't there already
abbrev pub ending : ℕ → List ℕ → List ℕ
ending place row = if ends_with row place then row else row ++ place ∷ []

-- the rows, where that of each called method ends with the place
abbrev pub noted : ℕ → (ℕ → Bool) → List (List ℕ) → List (List ℕ)
noted place called rows = indexed (λ k row. if called k then ending place row else row) 0 rows

-- the ranges so far, with those that a caller at the place gives the method k
abbrev pub with_caller : List MethodSizes → ℕ → List (Option Interval) → ℕ → Option Method → List (Option Interval)
with_caller table k found place None = found
with_caller table k found place (Some m) = with_entry (slice_get table place) k found m

-- a format of some method calls this one, with as many arguments as it has parameters
pub record IsCalled (methods : List Method) (k : ℕ) (m : Method) : Type 0 where
  pub place : ℕ
  pub caller : Method
  pub caller_at : slice_get methods place ≡ Some caller
  pub calls : CallsMethod caller k
  pub as_many : length calls.arguments ≡ length m.parameters

-- a method that has a format is called so, or has no parameters
pub record AreCalled (methods : List Method) : Type 0 where
  pub each : (k : ℕ) (m : Method) → slice_get methods k ≡ Some m → 0 < length m.formats → (IsCalled methods k m → ⊥) → length m.parameters ≡ 0
