-- Which formats reach a node of a decision tree (docs/DEFINITIONS.md, Certificates).
use Rattle.std.specs.Prelude.{◌≡◌, ℕ, zero, suc, ◌^◌, ◌<◌, Bool, true, false, not, ◌&&◌, ◌||◌, List, [], ◌∷◌, ◌++◌, length, Option, Some, None, slice_get, option_and_then, nat_eq, nat_lt, nat_le, ℤ, pos}
use Rattle.std.specs.List.{list_any}
use Rattle.std.specs.Ordering.{int_eq}
use Rattle.sem_bits.specs.Number.{num, enc}
use Rattle.sem_expr.specs.declared.interval.Interval.{Interval}
use Rattle.sem_expr.specs.Rules.{IsIn}
use Rattle.sem_expr.specs.declared.expr.Side.TheVariants.{Uncompressed}
use Rattle.sem_expr.specs.declared.expr.Measure.TheVariants as measure
use Rattle.sem_expr.specs.declared.expr.Comparison.TheVariants.{Equal, NotEqual}
use Rattle.sem_expr.specs.declared.expr.Expr.{Expr}
use Rattle.sem_expr.specs.declared.expr.Expr.TheVariants as expr
use Rattle.sem_expr.specs.declared.expr.Expr.TheVariants.{Number, Parameter, Binary'}
use Rattle.sem_expr.specs.declared.expr.Cond.TheVariants.{Compare}
use Rattle.sem_profile.specs.declared.profile.Library.TheVariants as library
use Rattle.sem_profile.specs.declared.profile.Encoding.{Encoding}
use Rattle.sem_profile.specs.declared.profile.Encoding.TheVariants as encoding
use Rattle.sem_profile.specs.declared.profile.Part.TheVariants.{Local}
use Rattle.sem_profile.specs.declared.profile.Bounds.{Bounds}
use Rattle.sem_profile.specs.declared.profile.Sizes.{Sizes}
use Rattle.sem_profile.specs.declared.profile.FormatSizes.{FormatSizes}
use Rattle.sem_profile.specs.declared.profile.MethodSizes.{MethodSizes}
use Rattle.sem_profile.specs.declared.profile.Field.{Field}
use Rattle.sem_profile.specs.declared.profile.Constraint.{Constraint}
use Rattle.sem_profile.specs.declared.profile.Constraint.TheVariants.{Enforce}
use Rattle.sem_profile.specs.declared.profile.Format.{Format}
use Rattle.sem_profile.specs.declared.profile.Method.{Method}
use Rattle.sem_profile.specs.Constants.{constant}
use Rattle.sem_filling.specs.Entries.{Path, below}
use Rattle.sem_filling.specs.Fits.{Context, reference_of}
use Rattle.cert_types.specs.declared.certificate.Node.{Node}
use Rattle.cert_types.specs.declared.certificate.Node.TheVariants as node
use Rattle.cert_types.specs.Kept.{trees_after, are_trees}
use Rattle.cert_rules.specs.Rules.{when, first_or, is_attribute, attribute_of}

-- ---- bits that a format alone tells

-- the bits that constants spell, where they fit
abbrev pub spelled : Option ℤ → Option ℤ → Option (List Bool)
spelled (Some (pos n)) (Some (pos v)) = when (nat_le n 64 && nat_lt v (2 ^ n)) (enc n v)
spelled _ _ = None

-- the bits of a field that a compressed_value of constants gives
abbrev pub literal : Encoding → Option (List Bool)
literal (encoding.Library (library.CompressedValue len v)) = spelled (constant len) (constant v)
literal _ = None

-- the length, where it is fixed
abbrev pub fixed : Bounds → Option ℕ
fixed b = when (nat_eq b.least b.most) b.least

-- the bit at an offset after given bits
abbrev pub after_bits : List Bool → (ℕ → Option Bool) → ℕ → Option Bool
after_bits [] rest o = rest o
after_bits (b ∷ bits) rest zero = Some b
after_bits (b ∷ bits) rest (suc o) = after_bits bits rest o

-- after so many bits of which none is known
abbrev pub after_gap : ℕ → (ℕ → Option Bool) → ℕ → Option Bool
after_gap zero rest o = rest o
after_gap (suc n) rest zero = None
after_gap (suc n) rest (suc o) = after_gap n rest o

-- after a field
abbrev pub after_field : Option (List Bool) → Option ℕ → (ℕ → Option Bool) → ℕ → Option Bool
after_field (Some bits) gap rest o = after_bits bits rest o
after_field None (Some n) rest o = after_gap n rest o
after_field None None rest o = None

-- the bit at an offset of the packed bits: literals tell theirs, fields of one length are stepped over, others end it
abbrev pub known_bit : List Field → List Sizes → List ℕ → ℕ → Option Bool
known_bit fields sizes [] o = None
known_bit fields sizes (i ∷ is) o =
    after_field (option_and_then (λ d. literal d.encoding) (slice_get fields i)) (option_and_then (λ b. fixed b.compressed) (slice_get sizes i)) (known_bit fields sizes is) o

-- the bit is known, and is this one
abbrev pub is_bit : Bool → Option Bool → Bool
is_bit b None = false
is_bit true (Some x) = x
is_bit false (Some x) = not x

-- the bit at the offset is not known to be this one
abbrev pub lacks_bit : Bool → ℕ → Format → FormatSizes → Bool
lacks_bit b o format sizes = not (is_bit b (known_bit format.fields sizes.fields format.listing o))

-- ---- what a format's constraints tell of a parameter

-- the expression is the parameter alone
abbrev pub is_parameter : ℕ → Expr → Bool
is_parameter p (Parameter s i) = nat_eq i p
is_parameter p (Number s n) = false
is_parameter p (expr.Attribute s t) = false
is_parameter p (Binary' s op l x r y) = false

-- the constant that is compared with such an expression, either way round
abbrev pub compared_with : (Expr → Bool) → Expr → Expr → Option ℤ
compared_with is x y = first_or (option_and_then constant (when (is x) y)) (option_and_then constant (when (is y) x))

-- d, where the constraint is x == d for such an x
abbrev pub said_of : (Expr → Bool) → Constraint → Option ℤ
said_of is (Enforce (Compare s Equal x y) place) = compared_with is x y
said_of is _ = None

-- d, where the constraint is x != d
abbrev pub denied_of : (Expr → Bool) → Constraint → Option ℤ
denied_of is (Enforce (Compare s NotEqual x y) place) = compared_with is x y
denied_of is _ = None

-- d, where the constraint is p == d, or p != d
abbrev pub parameter_is : ℕ → Constraint → Option ℤ
parameter_is p = said_of (is_parameter p)

abbrev pub parameter_is_not : ℕ → Constraint → Option ℤ
parameter_is_not p = denied_of (is_parameter p)

-- the number is there, and is c
abbrev pub is_number : ℤ → Option ℤ → Bool
is_number c None = false
is_number c (Some d) = int_eq c d

-- the number is there, and is not c
abbrev pub is_other : ℤ → Option ℤ → Bool
is_other c None = false
is_other c (Some d) = not (int_eq c d)

-- a constraint denies that such an expression is c: it is another number, or is not c
abbrev pub is_denied : (Expr → Bool) → ℤ → List Constraint → Bool
is_denied is c ks = list_any (λ k. is_other c (said_of is k) || is_number c (denied_of is k)) ks

-- a constraint says that such an expression is c
abbrev pub is_said : (Expr → Bool) → ℤ → List Constraint → Bool
is_said is c ks = list_any (λ k. is_number c (said_of is k)) ks

-- no fitting filling of the format has the parameter p at c
abbrev pub never_at : ℕ → ℤ → Format → Bool
never_at p c format = is_denied (is_parameter p) c format.constraints

-- no fitting filling of the format has the parameter p at a number other than c
abbrev pub only_at : ℕ → ℤ → Format → Bool
only_at p c format = is_said (is_parameter p) c format.constraints

-- ---- what they tell of a reference, where its field is static

-- the field is encoded by static
abbrev pub is_static : Encoding → Bool
is_static (encoding.Library library.Static) = true
is_static _ = false

abbrev pub is_static_field : Option Field → Bool
is_static_field None = false
is_static_field (Some d) = is_static d.encoding

-- the expression is the value of the uncompressed side of the field at an index
abbrev pub is_value : ℕ → Expr → Bool
is_value i = is_attribute (attribute_of i Uncompressed measure.Value)

-- no fitting filling of the format has a reference of the field i at c
abbrev pub never_refers : ℕ → ℤ → Format → Bool
never_refers i c format = is_static_field (slice_get format.fields i) && is_denied (is_value i) c format.constraints

-- no fitting filling of the format has no reference of the field i, or one at another number than c
abbrev pub only_refers : ℕ → ℤ → Format → Bool
only_refers i c format = is_static_field (slice_get format.fields i) && is_said (is_value i) c format.constraints

-- the number of a reference of at most 64 bits
abbrev pub referred : Option (List Bool) → Option ℤ
referred None = None
referred (Some bits) = when (nat_le (length bits) 64) (pos (num bits))

-- the reference of a field of the method at a path
abbrev pub field_referred : Context → Path → Field → Option ℤ
field_referred ctx path d = referred (reference_of d.declared.part ctx (below path d.declared.name) d.initial)

-- the fields of the first format
abbrev pub first_fields : List Format → List Field
first_fields [] = []
first_fields (format ∷ formats) = format.fields

-- the references of the fields of a method at a path, by their places: those of its first format, since each has the same header and control fields
abbrev pub references : Context → Path → List Format → ℕ → Option ℤ
references ctx path formats i = option_and_then (field_referred ctx path) (slice_get (first_fields formats) i)

-- ---- trees

-- which formats of a method, with their bounds, reach a node
abbrev pub Reach : Type 0
Reach = Format → FormatSizes → Bool

-- those that go on to each subtree
abbrev pub onward : Reach → Node → List Reach
onward reach (node.Bit o) = (λ format sizes. reach format sizes && lacks_bit true o format sizes) ∷ (λ format sizes. reach format sizes && lacks_bit false o format sizes) ∷ []
onward reach (node.Parameter i c) = (λ format sizes. reach format sizes && not (never_at i c format)) ∷ (λ format sizes. reach format sizes && not (only_at i c format)) ∷ []
onward reach (node.Reference i c) = (λ format sizes. reach format sizes && not (never_refers i c format)) ∷ (λ format sizes. reach format sizes && not (only_refers i c format)) ∷ []
onward reach (node.Leaf n) = []
onward reach node.Nowhere = []

-- those that reach the node at a place, from those that reach each of the trees
abbrev pub reach_at : List Reach → List Node → ℕ → Option Reach
reach_at [] nodes n = None
reach_at (reach ∷ more) [] n = None
reach_at (reach ∷ more) (x ∷ nodes) zero = Some reach
reach_at (reach ∷ more) (x ∷ nodes) (suc n) = reach_at (onward reach x ++ more) nodes n

-- the format of that place reaches it
pub record Reaches (formats : List Format) (s : MethodSizes) (reach : Reach) (n : ℕ) : Type 0 where
  pub format : Format
  pub sizes : FormatSizes
  pub format_at : slice_get formats n ≡ Some format
  pub sizes_at : slice_get s.formats n ≡ Some sizes
  pub reaches : reach format sizes ≡ true

-- the number has 64 bits
abbrev pub IsShort : ℤ → Type 0
IsShort c = (n : ℕ) × (c ≡ pos n) × (n < 2 ^ 64)

-- A leaf is reached by no format but its own, and a node without a format by none; a bit is below the least length of each format that reaches its test; a parameter's constant is in its range,
-- and a reference's is a number of 64 bits.
abbrev pub IsRight : List Format → MethodSizes → Reach → Node → Type 0
IsRight formats s reach (node.Leaf k) = (n : ℕ) → Reaches formats s reach n → n ≡ k
IsRight formats s reach node.Nowhere = (n : ℕ) → Reaches formats s reach n → ⊥
IsRight formats s reach (node.Bit o) = (n : ℕ) → (r : Reaches formats s reach n) → o < r.sizes.whole.compressed.least
IsRight formats s reach (node.Parameter i c) = (r : Interval) → slice_get s.parameters i ≡ Some r → IsIn r c
IsRight formats s reach (node.Reference i c) = IsShort c

-- all formats reach the root
abbrev pub everything : Reach
everything format sizes = true

-- the nodes are one tree, and each is right
pub record PartsFormats (formats : List Format) (s : MethodSizes) (nodes : List Node) : Type 0 where
  pub whole : are_trees 1 nodes ≡ true
  pub each : (n : ℕ) (x : Node) (reach : Reach) → slice_get nodes n ≡ Some x → reach_at (everything ∷ []) nodes n ≡ Some reach → IsRight formats s reach x

-- ---- the way through a tree

-- where it leads: to a format, to none, or to a bit past the end
pub data Arrival : Type 0 where
  leads : ℕ → Arrival
  nowhere : Arrival
  cut_off : Arrival

-- by a bit, to the first tree or past it
abbrev pub by_bit : Option Bool → (ℕ → Arrival) → Arrival
by_bit None on = cut_off
by_bit (Some false) on = on 0
by_bit (Some true) on = on 1

-- by a test, to the first tree or past it
abbrev pub by_test : Bool → (ℕ → Arrival) → Arrival
by_test true on = on 0
by_test false on = on 1

-- the way of references, bits and arguments through the first tree after so many
abbrev pub way : (ℕ → Option ℤ) → List Bool → List ℤ → ℕ → List Node → Arrival
way refs bits args n [] = nowhere
way refs bits args (suc n) (x ∷ nodes) = way refs bits args (trees_after x n) nodes
way refs bits args zero (node.Leaf k ∷ nodes) = leads k
way refs bits args zero (node.Nowhere ∷ nodes) = nowhere
way refs bits args zero (node.Bit o ∷ nodes) = by_bit (slice_get bits o) (λ n. way refs bits args n nodes)
way refs bits args zero (node.Parameter i c ∷ nodes) = by_test (is_number c (slice_get args i)) (λ n. way refs bits args n nodes)
way refs bits args zero (node.Reference i c ∷ nodes) = by_test (is_number c (refs i)) (λ n. way refs bits args n nodes)
