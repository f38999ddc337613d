-- The ranges of parameters: the hulls of the ranges of their arguments over all calls.
use Rattle.std.specs.Prelude.{Bool, false, ◌≡◌, ℕ, ◌≤◌, ◌^◌, pos, nat_eq, List, map, fold, slice_get, Option, Some, None, if◌then◌else◌}
use Rattle.std.specs.Int.{int_min, int_max}
use Rattle.std.specs.List.{list_any}
use Rattle.std.specs.Option.{option_and_then, unwrap_or}
use Rattle.std.specs.Result.{result_ok}
use Rattle.sem_expr.specs.declared.expr.Expr.{Expr}
use Rattle.sem_expr.specs.declared.interval.Interval.{Interval}
use Rattle.sem_expr.specs.declared.ranges.Ranges.{Ranges}
use Rattle.sem_expr.specs.Rules.{from_to}
use Rattle.sem_expr.specs.Ranged.{ranged}
use Rattle.sem_expr.specs.Bounds.{bounding_of}
use Rattle.sem_profile.specs.declared.profile.FormatSizes.{FormatSizes}
use Rattle.sem_profile.specs.declared.profile.MethodSizes.{MethodSizes}
use Rattle.sem_profile.specs.declared.profile.Encoding.{Encoding}
use Rattle.sem_profile.specs.declared.profile.Encoding.TheVariants as encoding
use Rattle.sem_profile.specs.declared.profile.Format.{Format}
use Rattle.sem_profile.specs.declared.profile.Method.{Method}
use Rattle.sem_profile.specs.Passes.{indexed, folded}
use Rattle.sem_profile.specs.Ranging.{format_ranges}

-- the least interval around both
abbrev pub joined : Option Interval → Option Interval → Option Interval
joined None o = o
joined (Some i) None = Some i
joined (Some i) (Some j) = Some (from_to (int_min i.from j.from) (int_max i.to j.to))

-- the range of the argument at the place, where there is one
abbrev pub argument_range : Ranges → List Expr → ℕ → Option Interval
argument_range r arguments q = option_and_then (λ e. result_ok (ranged (bounding_of r) e)) (slice_get arguments q)

-- the hulls so far, with the arguments of one more call
abbrev pub with_arguments : Ranges → List Expr → List (Option Interval) → List (Option Interval)
with_arguments r arguments found = indexed (λ q o. joined o (argument_range r arguments q)) 0 found

-- the same, with those of a field that is a call of the method k
abbrev pub with_call : Ranges → ℕ → List (Option Interval) → Encoding → List (Option Interval)
with_call r k found encoding.Bare = found
with_call r k found (encoding.Library l) = found
with_call r k found (encoding.Call j arguments) = if nat_eq j k then with_arguments r arguments found else found

-- the field is a call of the method k
abbrev pub is_call : ℕ → Encoding → Bool
is_call k encoding.Bare = false
is_call k (encoding.Library l) = false
is_call k (encoding.Call j arguments) = nat_eq j k

abbrev pub calls : ℕ → Format → Bool
calls k format = list_any (λ d. is_call k d.encoding) format.fields

-- with those of all fields of a format
abbrev pub with_fields : Ranges → ℕ → List (Option Interval) → Format → List (Option Interval)
with_fields r k found format = fold (λ o d. with_call r k o d.encoding) found format.fields

-- the same, from the bounds of the format and the ranges of its method's parameters
abbrev pub with_format : List Interval → ℕ → List (Option Interval) → Format → Option FormatSizes → List (Option Interval)
with_format parameters k found format None = found
with_format parameters k found format (Some s) = with_fields (format_ranges s parameters) k found format

-- with those of all formats of a method
abbrev pub with_method : List FormatSizes → List Interval → ℕ → List (Option Interval) → Method → List (Option Interval)
with_method formats parameters k found m = folded (λ n o format. with_format parameters k o format (slice_get formats n)) 0 found m.formats

-- with those of a method, from its entry in the table
abbrev pub with_entry : Option MethodSizes → ℕ → List (Option Interval) → Method → List (Option Interval)
with_entry None k found m = found
with_entry (Some s) k found m = with_method s.formats s.parameters k found m

-- with those of all methods
abbrev pub gathered : List Method → List MethodSizes → ℕ → List (Option Interval) → List (Option Interval)
gathered methods table k found = folded (λ i o m. with_entry (slice_get table i) k o m) 0 found methods

-- what stands for no range: 0 alone in a profile, whose calls all have arguments with ranges; beyond the limit while faults are looked for, so that no part that holds the parameter has a range
abbrev pub only_zero : Interval
only_zero = from_to (pos 0) (pos 0)

abbrev pub beyond : Interval
beyond = from_to (pos (2 ^ 121)) (pos (2 ^ 121))

-- the ranges of the parameters of the method k, where this interval stands for none
abbrev pub parameter_ranges : Interval → List Method → List MethodSizes → ℕ → Method → List Interval
parameter_ranges none methods table k m = map (λ o. unwrap_or o none) (gathered methods table k (map (λ p. None) m.parameters))

abbrev pub with_parameters : List Interval → MethodSizes → MethodSizes
with_parameters parameters s = record { formats = s.formats; whole = s.whole; parameters = parameters }

-- each method from the place on in the order has the ranges of its parameters in the table
pub record RangedFrom (none : Interval) (methods : List Method) (order : List ℕ) (place : ℕ) (table : List MethodSizes) : Type 0 where
  pub ranged : (i k : ℕ) (m : Method) (s : MethodSizes) → place ≤ i → slice_get order i ≡ Some k → slice_get methods k ≡ Some m → slice_get table k ≡ Some s →
      s.parameters ≡ parameter_ranges none methods table k m
