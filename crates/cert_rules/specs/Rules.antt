-- Each step of a plan as a rule: what must be known, what must not be done, and what is known then (docs/DEFINITIONS.md, Certificates).
use Rattle.std.specs.Prelude.{ℕ, ◌^◌, Bool, true, false, List, [], ◌∷◌, ◌++◌, map, take, Option, Some, None, nat_eq, nat_le, ◌&&◌, ◌||◌, not, slice_get, option_and_then, option_map, ℤ, pos, int_le}
use Rattle.sem_expr.specs.declared.expr.Attribute.{Attribute}
use Rattle.sem_expr.specs.declared.expr.Subject.{Subject}
use Rattle.sem_expr.specs.declared.expr.Subject.TheVariants as subject
use Rattle.sem_expr.specs.declared.expr.Side.{Side}
use Rattle.sem_expr.specs.declared.expr.Side.TheVariants.{Uncompressed, Compressed}
use Rattle.sem_expr.specs.declared.expr.Measure.{Measure}
use Rattle.sem_expr.specs.declared.expr.Measure.TheVariants as measure
use Rattle.sem_expr.specs.declared.expr.Comparison.TheVariants.{Equal}
use Rattle.sem_expr.specs.declared.expr.Operator.{Operator}
use Rattle.sem_expr.specs.declared.expr.Operator.TheVariants.{Add, Remainder}
use Rattle.sem_expr.specs.declared.expr.Expr.{Expr}
use Rattle.sem_expr.specs.declared.expr.Expr.TheVariants as expr
use Rattle.sem_expr.specs.declared.expr.Expr.TheVariants.{Number, Parameter, Binary'}
use Rattle.sem_expr.specs.declared.expr.Cond.TheVariants.{Compare}
use Rattle.sem_profile.specs.declared.profile.Library.{Library}
use Rattle.sem_profile.specs.declared.profile.Library.TheVariants as library
use Rattle.sem_profile.specs.declared.profile.Encoding.{Encoding}
use Rattle.sem_profile.specs.declared.profile.Encoding.TheVariants as encoding
use Rattle.sem_profile.specs.declared.profile.Field.{Field}
use Rattle.sem_profile.specs.declared.profile.Constraint.{Constraint}
use Rattle.sem_profile.specs.declared.profile.Constraint.TheVariants.{Bracket, Enforce}
use Rattle.sem_profile.specs.declared.profile.Format.{Format}
use Rattle.sem_profile.specs.declared.profile.FormatSizes.{FormatSizes}
use Rattle.sem_profile.specs.declared.profile.MethodSizes.{MethodSizes}
use Rattle.sem_profile.specs.Constants.{constant}
use Rattle.sem_profile.specs.Fields.{lists}
use Rattle.sem_profile.specs.HasBounds.{size_of}
use Rattle.sem_filling.specs.Fillings.{is_header}
use Rattle.cert_types.specs.Kept.{choice_limit}
use Rattle.cert_types.specs.declared.certificate.Version.{Version}
use Rattle.cert_types.specs.declared.certificate.Version.TheVariants.{One, Two}
use Rattle.cert_types.specs.declared.certificate.Step.{Step}
use Rattle.cert_types.specs.declared.certificate.Step.TheVariants.{Take, Call, LibraryUp, LibraryDown, MethodLength, ConstraintLength, Solve, Choose, Ask}
use Rattle.cert_types.specs.declared.rule.Fact.{Fact}
use Rattle.cert_types.specs.declared.rule.Fact.TheVariants.{LengthOf, BitsOf, Done}
use Rattle.cert_types.specs.declared.rule.Rule.{Rule}
use Rattle.cert_rules.specs.Facts.{same_side, side_facts, inputs, inputs_of_all, before, of_headers}

-- a rule that nothing hinders but what it needs
abbrev pub rule : List Fact → List Fact → Rule
rule needs gives = record { needs = needs; absent = []; gives = gives }

-- one that is followed once for a field
abbrev pub rule_once : ℕ → List Fact → List Fact → Rule
rule_once i needs gives = record { needs = needs; absent = Done i ∷ []; gives = gives }

-- the value where the test holds
abbrev pub when : {A : Type 0} → Bool → A → Option A
when true x = Some x
when false x = None

-- the first value, else the second
abbrev pub first_or : {A : Type 0} → Option A → Option A → Option A
first_or (Some x) o = Some x
first_or None o = o

-- whether the field calls a method
abbrev pub is_call : Encoding → Bool
is_call (encoding.Call k es) = true
is_call encoding.Bare = false
is_call (encoding.Library l) = false

-- ---- steps by the field's library method, in both directions

-- up: what gives the uncompressed side
abbrev pub up_needs : Format → ℕ → Library → List Fact
up_needs format i (library.UncompressedValue len v) = inputs format len ++ inputs format v
up_needs format i (library.CompressedValue len v) = []
up_needs format i (library.Irregular len) = BitsOf Compressed i ∷ []
up_needs format i library.Static = []
up_needs format i (library.Lsb k offset) = BitsOf Compressed i ∷ inputs format k ++ inputs format offset
up_needs format i (library.Crc crc) = []

-- down: what gives the compressed side
abbrev pub down_needs : Format → ℕ → Library → List Fact
down_needs format i (library.UncompressedValue len v) = []
down_needs format i (library.CompressedValue len v) = inputs format len ++ inputs format v
down_needs format i (library.Irregular len) = BitsOf Uncompressed i ∷ []
down_needs format i library.Static = []
down_needs format i (library.Lsb k offset) = BitsOf Uncompressed i ∷ inputs format k
down_needs format i (library.Crc crc) = side_facts format crc.subject crc.side measure.Value ++ inputs_of_all format (crc.bits ∷ crc.polynomial ∷ crc.initial ∷ crc.length ∷ [])

-- what the length needs
abbrev pub size_inputs : Format → Option Expr → List Fact
size_inputs format None = []
size_inputs format (Some e) = inputs format e

-- a length needs the argument that tells it, if one does
abbrev pub length_needs : Format → Side → Library → List Fact
length_needs format side l = size_inputs format (size_of side l)

-- the needs by the method
abbrev pub by_library : (Library → List Fact) → List Fact → Encoding → Option Rule
by_library needs gives (encoding.Library l) = Some (rule (needs l) gives)
by_library needs gives encoding.Bare = None
by_library needs gives (encoding.Call k es) = None

-- ---- steps by a constraint, in both directions

-- equality of subjects
abbrev pub same_subject : Subject → Subject → Bool
same_subject (subject.Field i) (subject.Field j) = nat_eq i j
same_subject subject.This subject.This = true
same_subject _ _ = false

-- of measures
abbrev pub same_measure : Measure → Measure → Bool
same_measure measure.Value measure.Value = true
same_measure measure.Length measure.Length = true
same_measure _ _ = false

-- of attributes
abbrev pub same_attribute : Attribute → Attribute → Bool
same_attribute s t = same_subject s.subject t.subject && (same_side s.side t.side && same_measure s.measure t.measure)

-- the expression is the attribute alone
abbrev pub is_attribute : Attribute → Expr → Bool
is_attribute t (expr.Attribute s u) = same_attribute u t
is_attribute t (Number s n) = false
is_attribute t (Parameter s i) = false
is_attribute t (Binary' s op p x q y) = false

-- e, where the constraint is t == e, either way round
abbrev pub equated : Attribute → Constraint → Option Expr
equated t (Enforce (Compare s Equal x y) place) = first_or (when (is_attribute t x) y) (when (is_attribute t y) x)
equated t _ = None

-- the only one
abbrev pub sole : List Expr → Option Expr
sole (e ∷ []) = Some e
sole _ = None

-- e, where the constraint is a bracket of e alone on that length of i
abbrev pub bracketed : ℕ → Side → Constraint → Option Expr
bracketed i side (Bracket j which lengths place) = option_and_then (λ e. when (nat_eq j i && same_side which side) e) (sole lengths)
bracketed i side (Enforce condition place) = None

-- an attribute of the field at an index
abbrev pub attribute_of : ℕ → Side → Measure → Attribute
attribute_of i side m = record { subject = subject.Field i; side = side; measure = m }

-- the expression that the constraint says is that length
abbrev pub length_given : ℕ → Side → Constraint → Option Expr
length_given i side k = first_or (bracketed i side k) (equated (attribute_of i side measure.Length) k)

-- the expression that the constraint says is the value of the uncompressed side
abbrev pub value_given : ℕ → Constraint → Option Expr
value_given i k = equated (attribute_of i Uncompressed measure.Value) k

-- ---- equations of remainders, in certificates of version two

-- an equation (t + more) % by == left of an attribute t, by its parts
pub record Congruence : Type 0 where
  pub more : Expr
  pub by : ℤ
  pub left : Expr

-- what is added to the attribute, in either order
abbrev pub addend : Attribute → Operator → Expr → Expr → Option Expr
addend t Add x y = first_or (when (is_attribute t x) y) (when (is_attribute t y) x)
addend t _ x y = None

-- e, where the expression is the sum of the attribute and e
abbrev pub added : Attribute → Expr → Option Expr
added t (Binary' s op p x q y) = addend t op x y
added t (Number s n) = None
added t (Parameter s i) = None
added t (expr.Attribute s u) = None

-- the parts, where all are there
abbrev pub congruence : Option Expr → Option ℤ → Expr → Option Congruence
congruence (Some more) (Some by) left = Some record { more = more; by = by; left = left }
congruence _ _ left = None

-- the equation, where the operator makes a remainder of such a sum by a constant
abbrev pub reduction : Attribute → Operator → Expr → Expr → Expr → Option Congruence
reduction t Remainder x y left = congruence (added t x) (constant y) left
reduction t _ x y left = None

-- the same of an expression and what it is to be
abbrev pub reduced : Attribute → Expr → Expr → Option Congruence
reduced t (Binary' s op p x q y) left = reduction t op x y left
reduced t (Number s n) left = None
reduced t (Parameter s i) left = None
reduced t (expr.Attribute s u) left = None

-- the equation of a constraint, either way round
abbrev pub congruent : Attribute → Constraint → Option Congruence
congruent t (Enforce (Compare s Equal x y) place) = first_or (reduced t x y) (reduced t y x)
congruent t _ = None

-- each number of so many bits is below the divisor
abbrev pub is_reached : ℕ → ℤ → Bool
is_reached bits by = int_le (pos (2 ^ bits)) by

-- the equation of such a remainder of the value of the uncompressed side, where each number that the field's bounds allow is below the divisor
abbrev pub remainder_given : FormatSizes → ℕ → Constraint → Option Congruence
remainder_given sizes i k =
    option_and_then (λ c. option_and_then (λ b. when (is_reached b.uncompressed.most c.by) c) (slice_get sizes.fields i)) (congruent (attribute_of i Uncompressed measure.Value) k)

-- the first version has no such steps
abbrev pub from_two : {A : Type 0} → Version → Option A → Option A
from_two One o = None
from_two Two o = o

-- what the constraint of that number gives for a length, and for a value
abbrev pub by_length : Format → ℕ → Side → ℕ → Option Rule
by_length format i side n = option_map (λ e. rule (inputs format e) (LengthOf side i ∷ [])) (option_and_then (length_given i side) (slice_get format.constraints n))

-- the value by an equation of the value itself
abbrev pub by_equation : Format → ℕ → ℕ → Option Rule
by_equation format i n = option_map (λ e. rule (LengthOf Uncompressed i ∷ inputs format e) (BitsOf Uncompressed i ∷ [])) (option_and_then (value_given i) (slice_get format.constraints n))

-- by one of a remainder
abbrev pub by_remainder : FormatSizes → Format → ℕ → ℕ → Option Rule
by_remainder sizes format i n =
    option_map (λ c. rule (LengthOf Uncompressed i ∷ inputs format c.more ++ inputs format c.left) (BitsOf Uncompressed i ∷ [])) (option_and_then (remainder_given sizes i) (slice_get format.constraints n))

-- an equation of the value itself comes first: where a constraint is both, it needs the value either way
abbrev pub by_value : Version → FormatSizes → Format → ℕ → ℕ → Option Rule
by_value version sizes format i n = first_or (by_equation format i n) (from_two version (by_remainder sizes format i n))

-- the rules of both directions; a step on a field that is not there has none
abbrev pub common_rule : Version → FormatSizes → Format → Step → Option Rule
common_rule version sizes format (LibraryUp i) = option_and_then (λ d. by_library (up_needs format i) (LengthOf Uncompressed i ∷ BitsOf Uncompressed i ∷ []) d.encoding) (slice_get format.fields i)
common_rule version sizes format (LibraryDown i) = option_and_then (λ d. by_library (down_needs format i) (LengthOf Compressed i ∷ BitsOf Compressed i ∷ []) d.encoding) (slice_get format.fields i)
common_rule version sizes format (MethodLength i side) = option_and_then (λ d. by_library (length_needs format side) (LengthOf side i ∷ []) d.encoding) (slice_get format.fields i)
common_rule version sizes format (ConstraintLength i side n) = option_and_then (λ d. by_length format i side n) (slice_get format.fields i)
common_rule version sizes format (Solve i n) = option_and_then (λ d. by_value version sizes format i n) (slice_get format.fields i)
common_rule version sizes format _ = None

-- ---- reading

-- the fields listed before i are taken or called
abbrev pub listed_before : Format → ℕ → List Fact
listed_before format i = map Done (before i format.listing)

-- a listed field that isn't called
abbrev pub read_take : Format → ℕ → Field → Option Rule
read_take format i d = when (lists format.listing i && not (is_call d.encoding)) (rule_once i (LengthOf Compressed i ∷ listed_before format i) (BitsOf Compressed i ∷ Done i ∷ []))

-- the facts where the test holds
abbrev pub where_true : Bool → List Fact → List Fact
where_true true xs = xs
where_true false xs = []

-- all that a call gives
abbrev pub all_of : ℕ → List Fact
all_of i = LengthOf Uncompressed i ∷ BitsOf Uncompressed i ∷ LengthOf Compressed i ∷ BitsOf Compressed i ∷ Done i ∷ []

-- a call needs its arguments, and where the field is listed those listed before it
abbrev pub read_call : Format → ℕ → Encoding → Option Rule
read_call format i (encoding.Call k es) = Some (rule_once i (inputs_of_all format es ++ where_true (lists format.listing i) (listed_before format i)) (all_of i))
read_call format i encoding.Bare = None
read_call format i (encoding.Library l) = None

-- the rules of reading
abbrev pub read_rule : Version → FormatSizes → Format → Step → Option Rule
read_rule version sizes format (Take i) = option_and_then (read_take format i) (slice_get format.fields i)
read_rule version sizes format (Call i) = option_and_then (λ d. read_call format i d.encoding) (slice_get format.fields i)
read_rule version sizes format step = common_rule version sizes format step

-- ---- writing

-- the header fields before i are taken or called
abbrev pub headers_before : Format → ℕ → List Fact
headers_before format i = of_headers Done 0 (take i format.fields)

-- a header field that isn't called
abbrev pub write_take : Format → ℕ → Field → Option Rule
write_take format i d = when (is_header d.declared.part && not (is_call d.encoding)) (rule_once i (LengthOf Uncompressed i ∷ headers_before format i) (BitsOf Uncompressed i ∷ Done i ∷ []))

-- the method has no header in any format
abbrev pub is_headless : Option MethodSizes → Bool
is_headless None = false
is_headless (Some m) = nat_eq m.whole.uncompressed.most 0

-- a called field that isn't a header field stands on its own bits, unless there are none
abbrev pub own_bits : Bool → ℕ → List Fact
own_bits true i = []
own_bits false i = BitsOf Uncompressed i ∷ []

-- the one list of a header field, the other of another
abbrev pub in_header : Bool → List Fact → List Fact → List Fact
in_header true order own = order
in_header false order own = own

-- a call needs its arguments, and then its place in the header or its own bits
abbrev pub write_call : List MethodSizes → Format → ℕ → Bool → Encoding → Option Rule
write_call table format i header (encoding.Call k es) =
    Some (rule_once i (inputs_of_all format es ++ in_header header (headers_before format i) (own_bits (is_headless (slice_get table k)) i)) (all_of i))
write_call table format i header encoding.Bare = None
write_call table format i header (encoding.Library l) = None

-- n, where it is a constant up to the limit of choices
abbrev pub choosable : Option ℤ → Option ℕ
choosable (Some (pos n)) = when (nat_le n choice_limit) n
choosable _ = None

-- the value of a bracket of one constant on the uncompressed length of i, the first such
abbrev pub bracket_size : ℕ → List Constraint → Option ℤ
bracket_size i [] = None
bracket_size i (k ∷ ks) = first_or (option_and_then constant (bracketed i Uncompressed k)) (bracket_size i ks)

-- how many bits are chosen: by irregular of a constant, else by such a bracket
abbrev pub chosen_size : ℕ → List Constraint → Encoding → Option ℤ
chosen_size i ks (encoding.Library (library.Irregular len)) = first_or (constant len) (bracket_size i ks)
chosen_size i ks _ = bracket_size i ks

-- where the field's uncompressed side may be chosen, from how many bits
abbrev pub choice : Format → ℕ → Field → Option ℕ
choice format i d =
    option_and_then (λ n. when (not (is_header d.declared.part || (is_call d.encoding || d.declared.asked))) n) (choosable (chosen_size i format.constraints d.encoding))

-- the rules of writing
abbrev pub write_rule : Version → List MethodSizes → FormatSizes → Format → Step → Option Rule
write_rule version table sizes format (Take i) = option_and_then (write_take format i) (slice_get format.fields i)
write_rule version table sizes format (Call i) = option_and_then (λ d. write_call table format i (is_header d.declared.part) d.encoding) (slice_get format.fields i)
write_rule version table sizes format (Choose i) = option_map (λ n. rule [] (LengthOf Uncompressed i ∷ BitsOf Uncompressed i ∷ [])) (option_and_then (choice format i) (slice_get format.fields i))
write_rule version table sizes format (Ask i) = option_and_then (λ d. when d.declared.asked (rule [] (LengthOf Uncompressed i ∷ BitsOf Uncompressed i ∷ []))) (slice_get format.fields i)
write_rule version table sizes format step = common_rule version sizes format step
