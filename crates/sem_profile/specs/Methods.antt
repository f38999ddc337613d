-- The bounds of methods, as equations between the entries of one table.
use Rattle.std.specs.Prelude.{◌≡◌, ℕ, ◌<◌, ◌≤◌, ◌^◌, min, max, nat_le, Bool, true, false, ◌&&◌, List, [], ◌∷◌, length, map, fold, slice_get, Some}
use Rattle.sem_expr.specs.declared.expr.Expr.{Expr}
use Rattle.sem_profile.specs.declared.profile.Bounds.{Bounds}
use Rattle.sem_profile.specs.declared.profile.Sizes.{Sizes}
use Rattle.sem_profile.specs.declared.profile.FormatSizes.{FormatSizes}
use Rattle.sem_profile.specs.declared.profile.MethodSizes.{MethodSizes}
use Rattle.sem_profile.specs.declared.profile.Encoding.TheVariants as encoding
use Rattle.sem_profile.specs.declared.profile.Field.{Field}
use Rattle.sem_profile.specs.declared.profile.Format.{Format}
use Rattle.sem_profile.specs.declared.profile.Method.{Method}
use Rattle.sem_profile.specs.declared.fault.ProfileFault.{ProfileFault}
use Rattle.sem_profile.specs.declared.fault.ProfileFaultKind.TheVariants.{TooLarge}
use Rattle.sem_profile.specs.Faults.{about}
use Rattle.sem_profile.specs.HeaderLimit.{header_limit}
use Rattle.sem_profile.specs.Fields.{bounds, sides}
use Rattle.sem_profile.specs.Formats.{format_sizes, HaveNumbers}

abbrev pub hull : Bounds → Bounds → Bounds
hull b c = bounds (min b.least c.least) (max b.most c.most)

abbrev pub sides_hull : Sizes → Sizes → Sizes
sides_hull s t = sides (hull s.uncompressed t.uncompressed) (hull s.compressed t.compressed)

-- the least and the greatest over the formats
abbrev pub formats_hull : List FormatSizes → Sizes
formats_hull [] = sides (bounds 0 0) (bounds 0 0)
formats_hull (f ∷ fs) = fold (λ s g. sides_hull s g.whole) f.whole fs

-- the method's bounds: those of its formats, where called methods have theirs from the table, and their hull
pub record HasSizes (table : List MethodSizes) (method : Method) (sizes : MethodSizes) : Type 0 where
  pub formats_are : sizes.formats ≡ map (format_sizes table) method.formats
  pub whole_is : sizes.whole ≡ formats_hull sizes.formats

-- a field of a format of the method is encoded by the method k
pub record CallsMethod (method : Method) (k : ℕ) : Type 0 where
  pub format : Format
  pub format_place : ℕ
  pub format_at : slice_get method.formats format_place ≡ Some format
  pub field : Field
  pub field_place : ℕ
  pub field_at : slice_get format.fields field_place ≡ Some field
  pub arguments : List Expr
  pub is_call : field.encoding ≡ encoding.Call k arguments

-- each method stands in the order once, and after the methods that it calls
pub record IsOrder (methods : List Method) (order : List ℕ) : Type 0 where
  pub each : (k : ℕ) → k < length methods → (i : ℕ) × (slice_get order i ≡ Some k)
  pub once : (i j k : ℕ) → k < length methods → slice_get order i ≡ Some k → slice_get order j ≡ Some k → i ≡ j
  pub before : (i k j : ℕ) (m : Method) → slice_get order i ≡ Some k → slice_get methods k ≡ Some m → CallsMethod m j → (p : ℕ) × (p < i) × (slice_get order p ≡ Some j)

-- the table holds the bounds of each method that stands before the place in the order
pub record SizedBefore (methods : List Method) (order : List ℕ) (place : ℕ) (table : List MethodSizes) : Type 0 where
  pub each : length table ≡ length methods
  pub sized : (i k : ℕ) (m : Method) → i < place → slice_get order i ≡ Some k → slice_get methods k ≡ Some m → (s : MethodSizes) × (slice_get table k ≡ Some s) × HasSizes table m s

-- a sum over a format of the method is a number of 128 bits
pub record SumsAreNumbers (table : List MethodSizes) (method : Method) : Type 0 where
  pub each : (n : ℕ) (format : Format) → slice_get method.formats n ≡ Some format → HaveNumbers (format_sizes table format).whole

-- no more bits of a header than there may be
abbrev pub is_short : Sizes → Bool
is_short s = nat_le s.uncompressed.most header_limit

-- and at most 2^18 packed bits
abbrev pub is_within : Sizes → Bool
is_within s = is_short s && nat_le s.compressed.most (2 ^ 18)

abbrev pub IsShortAt : List Method → List MethodSizes → ℕ → Type 0
IsShortAt methods table k = (m : Method) (s : MethodSizes) → slice_get methods k ≡ Some m → slice_get table k ≡ Some s → is_short s.whole ≡ true

abbrev pub IsWithinAt : List Method → List MethodSizes → ℕ → Type 0
IsWithinAt methods table k = (m : Method) (s : MethodSizes) → slice_get methods k ≡ Some m → slice_get table k ≡ Some s → is_within s.whole ≡ true

-- each method has at most 2^18 packed bits
abbrev pub ArePacked : List Method → List MethodSizes → Type 0
ArePacked methods table = (k : ℕ) (m : Method) (s : MethodSizes) → slice_get methods k ≡ Some m → slice_get table k ≡ Some s → s.whole.compressed.most ≤ 2 ^ 18

-- a method's header may have more bits than that
pub record IsWide (methods : List Method) (table : List MethodSizes) (f : ProfileFault) : Type 0 where
  pub method : Method
  pub sizes : MethodSizes
  pub place : ℕ
  pub method_at : slice_get methods place ≡ Some method
  pub sizes_at : slice_get table place ≡ Some sizes
  pub beyond : is_short sizes.whole ≡ false
  pub is : f ≡ about TooLarge method.place
