-- The faults of the expressions of a format.
pub use Rattle.sem_profile.specs.Precedence.{earliest}
use Rattle.std.specs.Prelude.{ℕ, ◌+◌, ◌-◌, ◌^◌, min, nat_lt, Bool, false, List, length, slice_get, Option, Some, None, if◌then◌else◌}
use Rattle.std.specs.Option.{option_map, unwrap_or}
use Rattle.text_source.specs.declared.span.Span.{Span}
use Rattle.sem_expr.specs.declared.expr.Attribute.{Attribute}
use Rattle.sem_expr.specs.declared.expr.Subject.{Subject}
use Rattle.sem_expr.specs.declared.expr.Subject.TheVariants as subject
use Rattle.sem_expr.specs.declared.expr.Side.{Side}
use Rattle.sem_expr.specs.declared.expr.Side.TheVariants.{Uncompressed, Compressed}
use Rattle.sem_expr.specs.declared.expr.Measure.TheVariants.{Value, Length}
use Rattle.sem_expr.specs.declared.expr.Measure.{Measure}
use Rattle.sem_expr.specs.declared.expr.Expr.{Expr}
use Rattle.sem_expr.specs.declared.expr.Expr.TheVariants as expr
use Rattle.sem_expr.specs.declared.expr.Expr.TheVariants.{Number, Parameter, Binary'}
use Rattle.sem_expr.specs.declared.expr.Cond.{Cond}
use Rattle.sem_expr.specs.declared.expr.Cond.TheVariants.{Constant, Compare, Not', And', Or'}
use Rattle.sem_expr.specs.declared.ranges.Ranges.{Ranges}
use Rattle.sem_expr.specs.Bounds.{bounding_of}
use Rattle.sem_profile.specs.declared.profile.Bounds.{Bounds}
use Rattle.sem_profile.specs.declared.profile.Sizes.{Sizes}
use Rattle.sem_profile.specs.declared.profile.FormatSizes.{FormatSizes}
use Rattle.sem_profile.specs.declared.profile.Library.{Library}
use Rattle.sem_profile.specs.declared.profile.Library.TheVariants as library
use Rattle.sem_profile.specs.declared.profile.Encoding.{Encoding}
use Rattle.sem_profile.specs.declared.profile.Encoding.TheVariants as encoding
use Rattle.sem_profile.specs.declared.profile.Constraint.{Constraint}
use Rattle.sem_profile.specs.declared.profile.Constraint.TheVariants.{Bracket, Enforce}
use Rattle.sem_profile.specs.declared.profile.Field.{Field}
use Rattle.sem_profile.specs.declared.profile.Format.{Format}
use Rattle.sem_profile.specs.declared.fault.ProfileFault.{ProfileFault}
use Rattle.sem_profile.specs.declared.fault.ProfileFaultKind.TheVariants as kinds
use Rattle.sem_profile.specs.Faults.{of_range}
use Rattle.sem_profile.specs.Precedence.{earlier}
use Rattle.sem_expr.specs.declared.interval.Interval.{Interval}
use Rattle.sem_profile.specs.declared.profile.MethodSizes.{MethodSizes}
use Rattle.sem_profile.specs.declared.profile.Method.{Method}
use Rattle.sem_profile.specs.Formats.{sizes_at}
use Rattle.sem_profile.specs.Ranging.{format_ranges}
use Rattle.sem_profile.specs.declared.extent.Extent.{Extent}
use Rattle.sem_profile.specs.Extents.{range_fault, condition_range_fault}
use Rattle.sem_profile.specs.Passes.{folded}

-- ---- values that may be wider than 64 bits

abbrev pub side_bounds : Side → Sizes → Bounds
side_bounds Uncompressed s = s.uncompressed
side_bounds Compressed s = s.compressed

abbrev pub subject_sizes : FormatSizes → Subject → Sizes
subject_sizes s (subject.Field i) = sizes_at s.fields i
subject_sizes s subject.This = s.whole

-- a value is asked of bits that may be more than 64
abbrev pub is_wide_by : Measure → Bounds → Bool
is_wide_by Value b = nat_lt 64 b.most
is_wide_by Length b = false

abbrev pub is_wide : FormatSizes → Attribute → Bool
is_wide s t = is_wide_by t.measure (side_bounds t.side (subject_sizes s t.subject))

-- how long the word is that an attribute begins with: the field's name, or THIS
abbrev pub word_length : List Field → Subject → ℕ
word_length fields (subject.Field i) = unwrap_or (option_map (λ d. length d.declared.name) (slice_get fields i)) 0
word_length fields subject.This = 4

-- the first octets of a part of the text
abbrev pub front : Span → ℕ → Span
front at n = record { from = at.from; to = min (at.from + n) (2 ^ 32 - 1) }

abbrev pub wide_value : List Field → Span → Subject → ProfileFault
wide_value fields at s = record { kind = kinds.WideValue; at = at; first = Some (front at (word_length fields s)); second = None }

abbrev pub wide_in : Format → FormatSizes → Expr → Option ProfileFault
wide_in format s (Number at n) = None
wide_in format s (Parameter at i) = None
wide_in format s (expr.Attribute at t) = if is_wide s t then Some (wide_value format.fields at t.subject) else None
wide_in format s (Binary' at op p x q y) = earlier (wide_in format s x) (wide_in format s y)

abbrev pub wide_in_condition : Format → FormatSizes → Cond → Option ProfileFault
wide_in_condition format s (Constant at b) = None
wide_in_condition format s (Compare at op x y) = earlier (wide_in format s x) (wide_in format s y)
wide_in_condition format s (Not' at p x) = wide_in_condition format s x
wide_in_condition format s (And' at p x q y) = earlier (wide_in_condition format s x) (wide_in_condition format s y)
wide_in_condition format s (Or' at p x q y) = earlier (wide_in_condition format s x) (wide_in_condition format s y)

-- ---- both, in an expression, in an encoding, in a constraint, in a format

abbrev pub expr_fault : Extent → Format → FormatSizes → Ranges → Expr → Option ProfileFault
expr_fault x format s r e = earlier (wide_in format s e) (option_map of_range (range_fault x (bounding_of r) e))

abbrev pub condition_fault : Extent → Format → FormatSizes → Ranges → Cond → Option ProfileFault
condition_fault x format s r c = earlier (wide_in_condition format s c) (option_map of_range (condition_range_fault x (bounding_of r) c))

-- crc's data are no expression
abbrev pub library_fault : (Expr → Option ProfileFault) → Library → Option ProfileFault
library_fault judge (library.UncompressedValue len v) = earlier (judge len) (judge v)
library_fault judge (library.CompressedValue len v) = earlier (judge len) (judge v)
library_fault judge (library.Irregular len) = judge len
library_fault judge library.Static = None
library_fault judge (library.Lsb k offset) = earlier (judge k) (judge offset)
library_fault judge (library.Crc crc) = earlier (earlier (judge crc.bits) (judge crc.polynomial)) (earlier (judge crc.initial) (judge crc.length))

abbrev pub encoding_fault : (Expr → Option ProfileFault) → Encoding → Option ProfileFault
encoding_fault judge encoding.Bare = None
encoding_fault judge (encoding.Library l) = library_fault judge l
encoding_fault judge (encoding.Call k arguments) = earliest judge arguments

abbrev pub constraint_fault : Extent → Format → FormatSizes → Ranges → Constraint → Option ProfileFault
constraint_fault x format s r (Bracket field side lengths place) = earliest (expr_fault x format s r) lengths
constraint_fault x format s r (Enforce condition place) = condition_fault x format s r condition

abbrev pub format_fault : Extent → Format → FormatSizes → Ranges → Option ProfileFault
format_fault x format s r =
    earlier (earliest (λ d. encoding_fault (expr_fault x format s r) d.encoding) format.fields) (earliest (constraint_fault x format s r) format.constraints)

-- ---- in a method, and in all methods of the table

-- under the ranges that the bounds and the parameters give; none without bounds
abbrev pub sized_fault : Extent → List Interval → Format → Option FormatSizes → Option ProfileFault
sized_fault x parameters format None = None
sized_fault x parameters format (Some s) = format_fault x format s (format_ranges s parameters)

abbrev pub method_fault : Extent → Method → Option MethodSizes → Option ProfileFault
method_fault x m None = None
method_fault x m (Some s) = folded (λ n o format. earlier o (sized_fault x s.parameters format (slice_get s.formats n))) 0 None m.formats

abbrev pub methods_fault : Extent → List Method → List MethodSizes → Option ProfileFault
methods_fault x methods table = folded (λ i o m. earlier o (method_fault x m (slice_get table i))) 0 None methods
