-- What the bounds of a profile's methods are, and why there are none.
use Rattle.std.specs.Prelude.{◌≡◌, ℕ, List, length, slice_get, Some, None}
use Rattle.sem_profile.specs.declared.profile.FormatSizes.{FormatSizes}
use Rattle.sem_profile.specs.declared.profile.MethodSizes.{MethodSizes}
use Rattle.sem_profile.specs.declared.profile.Format.{Format}
use Rattle.sem_profile.specs.declared.profile.Method.{Method}
use Rattle.sem_profile.specs.declared.fault.ProfileFault.{ProfileFault}
use Rattle.sem_profile.specs.declared.fault.ResolveError.{ResolveError}
use Rattle.sem_profile.specs.declared.fault.ResolveError.TheVariants as errors
use Rattle.sem_profile.specs.Methods.{HasSizes, SizedBefore, IsWithinAt, IsWide}
use Rattle.sem_profile.specs.declared.extent.Extent.{Extent}
use Rattle.sem_profile.specs.declared.extent.Extent.TheVariants.{Whole, Known}
use Rattle.sem_profile.specs.Parameters.{only_zero, beyond, parameter_ranges, RangedFrom}
use Rattle.sem_profile.specs.Ranging.{format_ranges}
use Rattle.sem_profile.specs.BoundsFaults.{format_fault}

-- a format of a method, with its bounds and those of the method
pub record FormatAt (methods : List Method) (table : List MethodSizes) (method : Method) (format : Format) (whole : MethodSizes) (sizes : FormatSizes) : Type 0 where
  pub method_place : ℕ
  pub method_at : slice_get methods method_place ≡ Some method
  pub whole_at : slice_get table method_place ≡ Some whole
  pub format_place : ℕ
  pub format_at : slice_get method.formats format_place ≡ Some format
  pub sizes_at : slice_get whole.formats format_place ≡ Some sizes

-- no method is too large, and no expression has a fault, or none in the parts that are judged
pub record IsFine (x : Extent) (methods : List Method) (table : List MethodSizes) : Type 0 where
  pub within : (k : ℕ) → IsWithinAt methods table k
  pub accepted : (m : Method) (format : Format) (s : MethodSizes) (sizes : FormatSizes) → FormatAt methods table m format s sizes →
      format_fault x format sizes (format_ranges sizes s.parameters) ≡ None

-- a fault of the table: a method whose header is too large, or the earliest fault in the expressions of a format
pub data IsFaulty (x : Extent) (methods : List Method) (table : List MethodSizes) : ProfileFault → Type 0 where
  is_wide : {f : ProfileFault} → IsWide methods table f → IsFaulty x methods table f
  in_format : {f : ProfileFault} {m : Method} {format : Format} {s : MethodSizes} {sizes : FormatSizes} → FormatAt methods table m format s sizes →
      format_fault x format sizes (format_ranges sizes s.parameters) ≡ Some f → IsFaulty x methods table f

-- the table holds the bounds of each method and the ranges of its parameters, and none has a fault
pub record AreSizes (methods : List Method) (table : List MethodSizes) : Type 0 where
  pub each : length table ≡ length methods
  pub sized : (k : ℕ) (m : Method) (s : MethodSizes) → slice_get methods k ≡ Some m → slice_get table k ≡ Some s → HasSizes table m s
  pub ranged : (k : ℕ) (m : Method) (s : MethodSizes) → slice_get methods k ≡ Some m → slice_get table k ≡ Some s → s.parameters ≡ parameter_ranges only_zero methods table k m
  pub fine : IsFine Whole methods table

-- why there are no bounds: a fault of the finished table, where no part that holds a parameter without a range is judged
pub record Cause (methods : List Method) (order : List ℕ) (f : ProfileFault) : Type 0 where
  pub table : List MethodSizes
  pub sized : SizedBefore methods order (length order) table
  pub ranged : RangedFrom beyond methods order 0 table
  pub faulty : IsFaulty Known methods table f

abbrev pub Blames : List Method → List ℕ → ResolveError → Type 0
Blames methods order errors.OutOfMemory = Unit {0}
Blames methods order (errors.Fault f) = Cause methods order f
