-- What tells that no filling of a format fits, before its plan is followed.
use Rattle.std.specs.Prelude.{◌≡◌, ℕ, Bool, true, false, List, [], ◌++◌, drop, slice_get, ℤ, Option, Some, None, option_and_then, if◌then◌else◌}
use Rattle.text_source.specs.declared.span.Span.{Span}
use Rattle.sem_expr.specs.declared.expr.Cond.{Cond}
use Rattle.sem_expr.specs.declared.expr.Cond.TheVariants.{Compare}
use Rattle.sem_expr.specs.declared.expr.Comparison.{Comparison}
use Rattle.sem_expr.specs.declared.expr.Expr.{Expr}
use Rattle.sem_expr.specs.declared.expr.Measure.{Measure}
use Rattle.sem_expr.specs.declared.expr.Measure.TheVariants as measure
use Rattle.sem_expr.specs.declared.expr.Side.{Side}
use Rattle.sem_expr.specs.declared.expr.Side.TheVariants.{Uncompressed}
use Rattle.sem_expr.specs.declared.expr.Subject.{Subject}
use Rattle.sem_expr.specs.declared.expr.Subject.TheVariants as subject
use Rattle.sem_expr.specs.declared.expr.Expr.TheVariants as expr
use Rattle.sem_expr.specs.declared.expr.Expr.TheVariants.{Number, Parameter, Binary'}
use Rattle.sem_expr.specs.Values.{Assignment, compare, val}
use Rattle.sem_library.specs.Methods as lib
use Rattle.sem_library.specs.Methods.{Lib}
use Rattle.sem_profile.specs.declared.profile.Constraint.{Constraint}
use Rattle.sem_profile.specs.declared.profile.Constraint.TheVariants.{Enforce}
use Rattle.sem_profile.specs.declared.profile.Encoding.{Encoding}
use Rattle.sem_profile.specs.declared.profile.Encoding.TheVariants as encoding
use Rattle.sem_profile.specs.declared.profile.Library.TheVariants as library
use Rattle.sem_profile.specs.declared.profile.Field.{Field}
use Rattle.sem_profile.specs.declared.profile.Format.{Format}
use Rattle.sem_profile.specs.declared.profile.FormatSizes.{FormatSizes}
use Rattle.sem_profile.specs.declared.profile.Sizes.{Sizes}
use Rattle.sem_filling.specs.Entries.{below}
use Rattle.sem_filling.specs.Fillings.{is_header}
use Rattle.sem_filling.specs.declared.filling.AskedValue.{AskedValue}
use Rattle.sem_filling.specs.declared.filling.Filling.{Filling, out-Filling}
use Rattle.sem_filling.specs.Bounded.{sizes_at}
use Rattle.sem_filling.specs.Fits.{format_at, reference_of, vals}
use Rattle.sem_context.specs.Entries.{bits_at}
use Rattle.cert_rules.specs.Trees.{is_static, referred}
use Rattle.sem_profile.specs.Resolved.{Resolved}
use Rattle.cert_accepted.specs.declared.frame.AcceptedFrame.{AcceptedFrame}
use Rattle.cert_candidates.specs.Writing.{Begins}
use Rattle.cert_compiled.specs.Offsets.{HaveBefore}
use Rattle.walk_write.specs.Premises.{told_numbers}
use Rattle.walk_write.specs.Walking.{site_of}

-- ---- the reference of a field of the format

abbrev pub reference_at : AcceptedFrame → Field → Option (List Bool)
reference_at place d = reference_of d.declared.part (bits_at place.frame.context.now) (below place.frame.path.now d.declared.name) d.initial

-- ---- a constraint is false, whatever the fields hold

-- the value of a number or a parameter
abbrev pub operand : List ℤ → Expr → Option ℤ
operand args (Number s n) = Some n
operand args (Parameter s i) = slice_get args i
operand args (expr.Attribute s t) = None
operand args (Binary' s op p x q y) = None

-- the field of whose uncompressed side it is the value
abbrev pub valued : Subject → Side → Measure → Option ℕ
valued (subject.Field i) Uncompressed measure.Value = Some i
valued _ _ _ = None

-- the number of a field that is `static`, which is that of its reference, of at most 64 bits
abbrev pub kept_number : AcceptedFrame → Field → Option ℤ
kept_number place d = if is_static d.encoding then referred (reference_at place d) else None

abbrev pub kept_value : AcceptedFrame → List Field → Subject → Side → Measure → Option ℤ
kept_value place fields s side m = option_and_then (λ i. option_and_then (kept_number place) (slice_get fields i)) (valued s side m)

-- the value of a number, a parameter or such a field
abbrev pub known_operand : AcceptedFrame → List Field → Expr → Option ℤ
known_operand place fields (Number s n) = Some n
known_operand place fields (Parameter s i) = slice_get place.frame.arguments.now i
known_operand place fields (expr.Attribute s t) = kept_value place fields t.subject t.side t.measure
known_operand place fields (Binary' s op p x q y) = None

-- a comparison of two of which the values are known so, which is false
pub record IsFalse (known : Expr → Option ℤ) (condition : Cond) : Type 0 where
  pub place : Span
  pub comparison : Comparison
  pub one : Expr
  pub other : Expr
  pub one_value : ℤ
  pub other_value : ℤ
  pub condition_is : condition ≡ Compare place comparison one other
  pub one_is : known one ≡ Some one_value
  pub other_is : known other ≡ Some other_value
  pub is_false : compare comparison one_value other_value ≡ false

-- one of the constraints is such a conjunct
pub record HasFalse (known : Expr → Option ℤ) (constraints : List Constraint) : Type 0 where
  pub index : ℕ
  pub condition : Cond
  pub place : Span
  pub constraint_is : slice_get constraints index ≡ Some (Enforce condition place)
  pub is_false : IsFalse known condition

-- ---- the header has other bits than a field can hold

-- no bits in front of these have packed bits under the method, where the field's reference is this
abbrev pub IsElse : lib.Method → Option (List Bool) → List Bool → Type 0
IsElse m ref bits = (u c rest : List Bool) → bits ≡ u ++ rest → Lib m ref u c → ⊥

-- with this encoding a field calls the method j, whose only format is this, with these values
pub record CallsOnly (p : Resolved) (known : Assignment) (c : Encoding) (j : ℕ) (args : List ℤ) (format : Format) : Type 0 where
  pub exprs : List Expr
  pub encoding_is : c ≡ encoding.Call j exprs
  pub args_are : vals known exprs ≡ Some args
  pub format_is : format_at p.methods j 0 ≡ Some format
  pub alone : format_at p.methods j 1 ≡ None

-- Where that much is known of the fields, one with this encoding holds no bits in front of these, by a constant or a constraint, whatever its reference is and whatever else the others hold.
pub data Lacks (p : Resolved) : Assignment → Encoding → List Bool → Type 0 where
  -- a constant whose length and value are known, which is not in front
  of_constant : {known : Assignment} {c : Encoding} {bits : List Bool} (size value : Expr) (count number : ℤ) → c ≡ encoding.Library (library.UncompressedValue size value) → val known size ≡ Some count → val known value ≡ Some number →
      ((ref : Option (List Bool)) → IsElse (lib.uncompressed_value count number) ref bits) → Lacks p known c bits
  -- a call of a method with one format, one of whose constraints is false by the arguments
  of_constraint : {known : Assignment} {c : Encoding} {bits : List Bool} (j : ℕ) (args : List ℤ) (inner : Format) → CallsOnly p known c j args inner → HasFalse (operand args) inner.constraints → Lacks p known c bits
  -- such a call, where a header field inside holds no bits in front of those where it begins
  of_field : {known : Assignment} {c : Encoding} {bits : List Bool} (j : ℕ) (args : List ℤ) (inner : Format) (sizes : FormatSizes) (i offset : ℕ) (d : Field) → CallsOnly p known c j args inner →
      sizes_at p.sizes j 0 ≡ Some sizes → HaveBefore inner.fields sizes.fields i offset → slice_get inner.fields i ≡ Some d → is_header d.declared.part ≡ true → Lacks p (told_numbers inner args []) d.encoding (drop offset bits) →
      Lacks p known c bits

-- a header field does so where it begins
pub record FieldLacks (p : Resolved) (known : Assignment) (fields : List Field) (sizes : List Sizes) (bits : List Bool) : Type 0 where
  pub index : ℕ
  pub offset : ℕ
  pub field : Field
  pub before : HaveBefore fields sizes index offset
  pub field_is : slice_get fields index ≡ Some field
  pub in_header : is_header field.declared.part ≡ true
  pub lacks : Lacks p known field.encoding (drop offset bits)

-- Where that much is known of the fields, one with this encoding and this reference holds no bits in front of these, whatever else the others hold.
pub data IsOther (p : Resolved) (known : Assignment) (c : Encoding) (ref : Option (List Bool)) (bits : List Bool) : Type 0 where
  -- a constant that is not in front, its own or one inside
  by_constant : Lacks p known c bits → IsOther p known c ref bits
  -- the reference, which is not in front, or there is none
  by_static : c ≡ encoding.Library library.Static → IsElse lib.static ref bits → IsOther p known c ref bits
  -- a number in an interval about the reference, which is not in front
  by_lsb : (x y : Span) (k offset : ℤ) → c ≡ encoding.Library (library.Lsb (Number x k) (Number y offset)) → IsElse (lib.lsb k offset) ref bits → IsOther p known c ref bits

-- where that much is known of the fields, a header field holds no bits in front of those where it begins
pub record Differs (place : AcceptedFrame) (known : Assignment) (fields : List Field) (sizes : List Sizes) (bits : List Bool) : Type 0 where
  pub index : ℕ
  pub offset : ℕ
  pub field : Field
  pub before : HaveBefore fields sizes index offset
  pub field_is : slice_get fields index ≡ Some field
  pub in_header : is_header field.declared.part ≡ true
  pub other : IsOther place.accepted.now.profile known field.encoding (reference_at place field) (drop offset bits)

-- ---- a format that is refuted

-- one of its constraints is false by the arguments and the references, or the header differs from it
pub data IsRefuted (place : AcceptedFrame) (n : ℕ) (bits : List Bool) : Type 0 where
  by_constraint : (format : Format) → format_at place.accepted.now.profile.methods place.frame.method n ≡ Some format → HasFalse (known_operand place format.fields) format.constraints → IsRefuted place n bits
  by_header : (format : Format) (sizes : FormatSizes) → format_at place.accepted.now.profile.methods place.frame.method n ≡ Some format → sizes_at place.accepted.now.profile.sizes place.frame.method n ≡ Some sizes →
      Differs place (told_numbers format place.frame.arguments.now []) format.fields sizes.fields bits → IsRefuted place n bits

-- no filling of the format begins the bits
abbrev pub NeverBegins : AcceptedFrame → ℕ → List Bool → Type 0
NeverBegins place n bits = (asked : List AskedValue) (f : Filling) → Begins place.accepted.now.profile.methods (bits_at place.frame.context.now) (site_of place bits asked) f → (out-Filling f).format ≡ n → ⊥
