-- What stands against a format: why no filling of it is asked for (docs/DEFINITIONS.md, Reasons).
use Rattle.std.specs.Prelude.{◌≡◌, ◌≢◌, ℕ, ◌+◌, ◌<◌, ◌≤◌, Bool, true, false, is_none, ◌&&◌, if◌then◌else◌, List, [], ◌∷◌, ◌++◌, length, drop, slice_get, Option, Some, None, option_map, option_and_then, Result, Ok, Err, string_bytes}
use Rattle.std.specs.Option.{unwrap_or}
use Rattle.sem_expr.specs.declared.fault.RangeFault.{RangeFault}
use Rattle.sem_expr.specs.declared.expr.Expr.{Expr}
use Rattle.sem_expr.specs.declared.expr.Side.{Side}
use Rattle.sem_expr.specs.declared.interval.Interval.{Interval}
use Rattle.sem_expr.specs.Bounds.{bounding_of}
use Rattle.sem_expr.specs.Ranged.{Bounding, ranged}
use Rattle.sem_library.specs.Methods as lib
use Rattle.sem_library.specs.Methods.{IsOnly}
use Rattle.sem_profile.specs.declared.profile.Constraint.{Constraint}
use Rattle.sem_profile.specs.declared.profile.Encoding.{Encoding}
use Rattle.sem_profile.specs.declared.profile.Encoding.TheVariants as encoding
use Rattle.sem_profile.specs.declared.profile.Field.{Field}
use Rattle.sem_profile.specs.declared.profile.Format.{Format}
use Rattle.sem_profile.specs.declared.profile.FormatSizes.{FormatSizes}
use Rattle.sem_profile.specs.declared.profile.Library.{Library}
use Rattle.sem_profile.specs.declared.profile.Library.TheVariants as library
use Rattle.sem_profile.specs.declared.profile.Method.{Method}
use Rattle.text_source.specs.declared.span.Span.{Span}
use Rattle.sem_profile.specs.BoundsFaults.{side_bounds}
use Rattle.sem_profile.specs.BoundsLaws.{encoding_exprs}
use Rattle.sem_filling.specs.Entries.{below}
use Rattle.sem_filling.specs.Bounded.{sizes_at}
use Rattle.sem_filling.specs.Fits.{format_at}
use Rattle.sem_lint.specs.Never.{IsUntrue}
use Rattle.sem_lint.specs.Obstacles.{Hinders}
use Rattle.sem_filling.specs.declared.obstacle.Obstacle.{Obstacle}
use Rattle.sem_reasons.specs.Figures.{figures_at}
use Rattle.sem_reasons.specs.Full.{IsFullView}
use Rattle.sem_reasons.specs.Settings.{Setting}
use Rattle.sem_reasons.specs.Places.{BeginsAt, order_of}
use Rattle.sem_reasons.specs.Told.{Covers, Related, base_ranges, length_of, method_in, opposite, ranges_seen, reference_in, seen_at}
use Rattle.sem_lint.specs.Undefined.{first_undefined, undefined_constraint}
use Rattle.sem_filling.specs.declared.reason.Line.{Line}
use Rattle.sem_filling.specs.declared.reason.Reason.{Reason}
use Rattle.sem_filling.specs.declared.reason.Reason.TheVariants as reason
use Rattle.sem_filling.specs.declared.reason.Within.TheVariants as part
use Rattle.sem_reasons.specs.declared.sight.Observed.{Observed}

-- the ranges of a format's numbers, by what is seen
abbrev pub ranges_in : Setting → FormatSizes → Observed → Bounding
ranges_in s sizes seen = bounding_of (ranges_seen seen (base_ranges s sizes))

-- the methods that want a reference
abbrev pub wants_reference : Encoding → Bool
wants_reference (encoding.Library library.Static) = true
wants_reference (encoding.Library (library.Lsb k offset)) = true
wants_reference _ = false

-- the part of the constraint j that has no value, where that is a condition
abbrev pub undefined_at : Bounding → List Constraint → ℕ → Option Span
undefined_at r constraints j = option_and_then (undefined_constraint r) (slice_get constraints j)

-- the library method of the field i, with arguments of which each has one value
pub record HasMethod (s : Setting) (format : Format) (sizes : FormatSizes) (seen : Observed) (i : ℕ) (d : Field) (m : lib.Method) : Type 0 where
  pub field_is : slice_get format.fields i ≡ Some d
  pub library : Library
  pub library_is : d.encoding ≡ encoding.Library library
  pub covered : List Bool
  pub covers : Covers seen library covered
  pub method_is : method_in (ranges_in s sizes seen) covered library ≡ Some m

-- What stands against the format n.
pub data Stands (s : Setting) (n : ℕ) : Reason → Type 0 where
  -- no filling of it fits, whatever is asked for
  dead : (o : _) → Hinders s.profile s.method n o → Stands s n (reason.Dead o)
  -- there are fewer bits than any side of it has
  short : (sizes : FormatSizes) → sizes_at s.profile.sizes s.method n ≡ Some sizes → length s.bits < (side_bounds s.side sizes.whole).least → Stands s n (reason.Short (length s.bits) (side_bounds s.side sizes.whole).least)
  -- there are more
  long : (sizes : FormatSizes) → sizes_at s.profile.sizes s.method n ≡ Some sizes → s.is_whole ≡ true → (side_bounds s.side sizes.whole).most < length s.bits → Stands s n (reason.Long (length s.bits) (side_bounds s.side sizes.whole).most)
  -- a field begins where fewer bits are left than it has
  cut : {i due : ℕ} (offset : ℕ) (format : Format) (sizes : FormatSizes) → format_at s.profile.methods s.method n ≡ Some format → sizes_at s.profile.sizes s.method n ≡ Some sizes
      → offset ≤ length s.bits → BeginsAt (order_of format s.side) (length_of s format sizes) i offset → length_of s format sizes i ≡ Some due → length (drop offset s.bits) < due → Stands s n (reason.Cut i (length (drop offset s.bits)) due)
  -- a field wants a reference, and there is none at its path
  no_reference : {i : ℕ} {path : _} (format : Format) (d : Field) → format_at s.profile.methods s.method n ≡ Some format → slice_get format.fields i ≡ Some d → wants_reference d.encoding ≡ true → reference_in s d ≡ None
      → string_bytes path ≡ below s.path d.declared.name → Stands s n (reason.NoReference i path)
  -- one side of a field has these bits, and its method relates others to what the other side has
  differs : {i : ℕ} {found due : List Bool} (side : Side) (format : Format) (sizes : FormatSizes) (seen : Observed) (d : Field) (m : lib.Method) (own : List Bool) → IsFullView s n format sizes seen → HasMethod s format sizes seen i d m
      → seen_at seen.fields i side ≡ Some own → IsOnly (Related m (reference_in s d) side own) (Some due) → seen_at seen.fields i (opposite side) ≡ Some found → found ≢ due → Stands s n (reason.Differs i (opposite side) found due)
  -- one side of a field has these bits, to which its method relates none
  no_side : {i : ℕ} {side : Side} {found : List Bool} (format : Format) (sizes : FormatSizes) (seen : Observed) (d : Field) (m : lib.Method) → IsFullView s n format sizes seen → HasMethod s format sizes seen i d m
      → seen_at seen.fields i side ≡ Some found → IsOnly (Related m (reference_in s d) side found) None → Stands s n (reason.NoSide i side found)
  -- a condition is false by what is seen, with the numbers by which it goes
  untrue : {j : ℕ} (format : Format) (sizes : FormatSizes) (seen : Observed) → IsFullView s n format sizes seen → IsUntrue format.constraints (ranges_in s sizes seen) j
      → Stands s n (reason.Untrue j (figures_at (ranges_in s sizes seen) (slice_get format.constraints j)))
  -- an argument of a field's encoding has no value by what is seen
  no_argument : {at : Span} (i : ℕ) (format : Format) (sizes : FormatSizes) (seen : Observed) (d : Field) → IsFullView s n format sizes seen → slice_get format.fields i ≡ Some d → first_undefined (ranges_in s sizes seen) (encoding_exprs d.encoding) ≡ Some at
      → Stands s n (reason.Undefined at (part.Argument i))
  -- nor has a condition
  no_truth : {j : ℕ} {at : Span} (format : Format) (sizes : FormatSizes) (seen : Observed) → IsFullView s n format sizes seen → undefined_at (ranges_in s sizes seen) format.constraints j ≡ Some at
      → Stands s n (reason.Undefined at (part.Condition j))

-- ---- a method inside

abbrev pub range_of : Result Interval RangeFault → Option Interval
range_of (Ok i) = Some i
range_of (Err e) = None

-- a range for each of these
abbrev pub all_ranged : Bounding → List Expr → Option (List Interval)
all_ranged r [] = Some []
all_ranged r (e ∷ es) = option_and_then (λ i. option_map (λ is. i ∷ is) (all_ranged r es)) (range_of (ranged r e))

-- the fillings inside a field that calls the method k, whose side begins after so many bits
abbrev pub inside : Setting → Field → ℕ → List Interval → ℕ → Setting
inside s d k parameters offset = record {
  profile = s.profile;
  context = s.context;
  method = k;
  parameters = parameters;
  path = below s.path d.declared.name;
  side = s.side;
  bits = drop offset s.bits;
  is_whole = false;
  asked = [];
}

-- the field i of the format n calls the method of the inner setting
pub record Calls (s : Setting) (n i : ℕ) (inner : Setting) : Type 0 where
  pub format : Format
  pub sizes : FormatSizes
  pub seen : Observed
  pub view : IsFullView s n format sizes seen
  pub field : Field
  pub field_is : slice_get format.fields i ≡ Some field
  pub method : ℕ
  pub arguments : List Expr
  pub encoding_is : field.encoding ≡ encoding.Call method arguments
  pub parameters : List Interval
  pub ranges_are : all_ranged (ranges_in s sizes seen) arguments ≡ Some parameters
  pub offset : ℕ
  pub begins : BeginsAt (order_of format s.side) (length_of s format sizes) i offset
  pub inner_is : inner ≡ inside s field method parameters offset

-- how many formats the method has
abbrev pub formats_of : Setting → ℕ
formats_of s = unwrap_or (option_map (λ (m : Method). length m.formats) (slice_get s.profile.methods s.method)) 0

abbrev pub line_of : Setting → ℕ → ℕ → Reason → Line
line_of s depth n r = record { depth = depth; method = s.method; format = n; reason = r }

mutual
  -- These lines, of a depth, tell why no filling of the format n is asked for.
  pub data Tells : Setting → ℕ → ℕ → List Line → Type 0 where
    by_reason : {s : Setting} {depth n : ℕ} (r : Reason) → Stands s n r → Tells s depth n (line_of s depth n r ∷ [])
    -- a field calls a method, and they tell it of each of its formats
    by_call : {s : Setting} {depth n : ℕ} {lines : List Line} (i : ℕ) (inner : Setting) → Calls s n i inner → TellAll inner (depth + 1) 0 lines → Tells s depth n (line_of s depth n (reason.Inside i) ∷ lines)

  -- They tell it of each format from the number n on.
  pub data TellAll : Setting → ℕ → ℕ → List Line → Type 0 where
    ends : {s : Setting} {depth n : ℕ} → formats_of s ≤ n → TellAll s depth n []
    next : {s : Setting} {depth n : ℕ} {first rest : List Line} → n < formats_of s → Tells s depth n first → TellAll s depth (n + 1) rest → TellAll s depth n (first ++ rest)

-- ---- where nothing simple stands against a format

-- by its bounds the format has neither more bits at least nor fewer at most
pub record HasRoom (s : Setting) (n : ℕ) : Type 0 where
  pub not_short : (sizes : FormatSizes) → sizes_at s.profile.sizes s.method n ≡ Some sizes → length s.bits < (side_bounds s.side sizes.whole).least → ⊥
  pub not_long : (sizes : FormatSizes) → sizes_at s.profile.sizes s.method n ≡ Some sizes → s.is_whole ≡ true → (side_bounds s.side sizes.whole).most < length s.bits → ⊥

-- nor does an obstacle stand against it
pub record IsOpen (s : Setting) (n : ℕ) : Type 0 where
  pub alive : (o : Obstacle) → Hinders s.profile s.method n o → ⊥
  pub room : HasRoom s n

-- a field wants a reference, and there is none at its path
abbrev pub lacks : Setting → Field → Bool
lacks s d = wants_reference d.encoding && is_none (reference_in s d)

-- the index of the first such field, counted from k
abbrev pub lacking : Setting → ℕ → List Field → Option ℕ
lacking s k [] = None
lacking s k (d ∷ ds) = if lacks s d then Some k else lacking s (k + 1) ds

-- no field of the format is such a one
abbrev pub HasReferences : Setting → ℕ → Type 0
HasReferences s n = (format : Format) (i : ℕ) (d : Field) → format_at s.profile.methods s.method n ≡ Some format → slice_get format.fields i ≡ Some d → wants_reference d.encoding ≡ true → reference_in s d ≡ None → ⊥

-- Nothing stands against the format n.
abbrev pub IsClear : Setting → ℕ → Type 0
IsClear s n = (r : Reason) → Stands s n r → ⊥

-- What is told of each format from the number n on: why no filling of it is asked for, or that nothing simple stands against it. This is said just where nothing stands
-- against it, but for what may stand inside a call.
pub data Verdicts (s : Setting) : ℕ → List Line → Type 0 where
  no_more : {n : ℕ} → formats_of s ≤ n → Verdicts s n []
  out : {n : ℕ} {first rest : List Line} → n < formats_of s → Tells s 0 n first → Verdicts s (n + 1) rest → Verdicts s n (first ++ rest)
  open_still : {n : ℕ} {rest : List Line} → n < formats_of s → IsOpen s n → HasReferences s n → IsClear s n → Verdicts s (n + 1) rest → Verdicts s n (line_of s 0 n reason.Nothing ∷ rest)

-- What is told of one format: why no filling of it is asked for, or that nothing simple stands against it.
pub data IsVerdict (s : Setting) (n : ℕ) : List Line → Type 0 where
  is_out : {lines : List Line} → Tells s 0 n lines → IsVerdict s n lines
  is_open : IsOpen s n → HasReferences s n → IsClear s n → IsVerdict s n (line_of s 0 n reason.Nothing ∷ [])
