-- The limits on the methods of a profile.
use Rattle.std.specs.Prelude.{◌≡◌, ℕ, ◌<◌, nat_lt, Bool, List, Option, Some, None, length, slice_get, if◌then◌else◌}
use Rattle.std.specs.List.{list_any}
use Rattle.text_source.specs.declared.span.Span.{Span}
use Rattle.sem_graph.specs.Measures.{number_at, AreWeights}
use Rattle.sem_profile.specs.declared.profile.Format.{Format}
use Rattle.sem_profile.specs.declared.profile.Method.{Method}
use Rattle.sem_profile.specs.declared.fault.ProfileFault.{ProfileFault}
use Rattle.sem_profile.specs.declared.fault.ProfileFaultKind.TheVariants as kinds
use Rattle.sem_profile.specs.Faults.{about}
use Rattle.sem_profile.specs.Limits.{field_limit, weight_limit}
use Rattle.text_resolve.specs.CallDepth.{IsTooDeep}
use Rattle.sem_profile.specs.Uses.{uses_of, used_graph}

abbrev pub too_large_at : Method → ProfileFault
too_large_at method = about kinds.TooLarge method.place

abbrev pub is_long : Format → Bool
is_long format = nat_lt field_limit (length format.fields)

-- the fault of a method that has a format of more fields
abbrev pub long_format : Method → Option ProfileFault
long_format method = if list_any is_long method.formats then Some (too_large_at method) else None

-- a format of a method has more fields
pub data IsLong (methods : List Method) : ProfileFault → Type 0 where
  stands_long : (i k : ℕ) (m : Method) (f : Format) → slice_get methods i ≡ Some m → slice_get m.formats k ≡ Some f → field_limit < length f.fields
      → IsLong methods (too_large_at m)

-- the top's message has more fields, with those of the methods that encode its fields
pub data IsHeavy (methods : List Method) (top : ℕ) : ProfileFault → Type 0 where
  weighs_more : (m : Method) (weights : List ℕ) → slice_get methods top ≡ Some m → AreWeights (uses_of methods) weights → weight_limit < number_at weights top
      → IsHeavy methods top (too_large_at m)

-- which limit is passed by methods whose names stand at these places
pub data IsTooLarge (names : List Span) (methods : List Method) (top : ℕ) : ProfileFault → Type 0 where
  -- a method stands deeper than 16 methods from the top
  calls_too_deep : {fault : ProfileFault} → IsTooDeep (used_graph methods) top names fault → IsTooLarge names methods top fault
  -- a format has more than 128 fields
  format_too_long : {fault : ProfileFault} → IsLong methods fault → IsTooLarge names methods top fault
  -- the formats on the paths from the top have more than 4,096 fields
  fields_too_many : {fault : ProfileFault} → IsHeavy methods top fault → IsTooLarge names methods top fault
