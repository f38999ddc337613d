-- What `why` prints of the reasons that stand against formats: a line for each, up to 4,096 (docs/FORMATS.md).
use Rattle.std.specs.Prelude.{ℕ, Bool, true, false, List, [], ◌++◌, length, take, nat_lt, Option, Some, None, codes, decimal, flat_map, replicate, slice_get, string_bytes}
use Rattle.std.specs.Fmt.{signed_decimal}
use Rattle.std.specs.Option.{option_and_then, unwrap_or}
use Rattle.text_source.specs.declared.span.Span.{Span}
use Rattle.text_source.specs.Places.{line_of, column_of}
use Rattle.sem_expr.specs.declared.expr.Measure.{Measure}
use Rattle.sem_expr.specs.declared.expr.Measure.TheVariants.{Value, Length}
use Rattle.sem_expr.specs.declared.expr.Side.{Side}
use Rattle.sem_expr.specs.declared.expr.Side.TheVariants.{Uncompressed, Compressed}
use Rattle.sem_expr.specs.declared.expr.Subject.{Subject}
use Rattle.sem_expr.specs.declared.expr.Subject.TheVariants as subject
use Rattle.sem_expr.specs.declared.inputs.Input.{Input}
use Rattle.sem_expr.specs.declared.inputs.Input.TheVariants as input
use Rattle.sem_profile.specs.declared.profile.Constraint.{Constraint}
use Rattle.sem_profile.specs.declared.profile.Constraint.TheVariants.{Bracket, Enforce}
use Rattle.sem_profile.specs.declared.profile.Method.{Method}
use Rattle.sem_filling.specs.declared.obstacle.Obstacle.TheVariants as obstacle
use Rattle.sem_filling.specs.declared.filling.AskedValue.{AskedValue}
use Rattle.sem_profile.specs.Resolved.{Resolved}
use Rattle.cert_text.specs.Text.{name_of}
use Rattle.sem_filling.specs.declared.reason.Figure.{Figure}
use Rattle.sem_filling.specs.declared.reason.Line.{Line}
use Rattle.sem_filling.specs.declared.reason.Reason.{Reason}
use Rattle.sem_filling.specs.declared.reason.Reason.TheVariants.{Dead, Short, Long, Cut, NoReference, Differs, NoSide, Untrue, Undefined, Inside, Nothing}
use Rattle.tool_items.specs.Asked.{front_words}
use Rattle.tool_input.specs.BitTexts.{bits_text}
use Rattle.tool_items.specs.Fields.{method_word}
use Rattle.tool_names.specs.Obstacles.{first_bracket, obstacle_words}
pub use Rattle.tool_names.specs.Obstacles.{place_of}
pub use Rattle.tool_names.specs.Names.{field_name}
use Rattle.tool_names.specs.Names.{encoding_at, constraints_at, format_name, method_name, method_place}

-- the place of a field: its bracket, first that of what is sent, else the method's name
abbrev pub field_place : List Method → ℕ → ℕ → ℕ → Span
field_place methods k n i = unwrap_or (first_bracket i Compressed (constraints_at methods k n)) (unwrap_or (first_bracket i Uncompressed (constraints_at methods k n)) (method_place methods k))

-- where in the profile the reason stands
abbrev pub reason_place : List Method → ℕ → ℕ → Reason → Span
reason_place methods k n (Dead o) = place_of methods (record { method = k; format = n; obstacle = o })
reason_place methods k n (Short length least) = method_place methods k
reason_place methods k n (Long length most) = method_place methods k
reason_place methods k n (Cut i left due) = field_place methods k n i
reason_place methods k n (NoReference i path) = field_place methods k n i
reason_place methods k n (Differs i side found due) = field_place methods k n i
reason_place methods k n (NoSide i side found) = field_place methods k n i
reason_place methods k n (Undefined at within) = at
reason_place methods k n (Untrue j figures) = place_of methods (record { method = k; format = n; obstacle = obstacle.NeverTrue j })
reason_place methods k n (Inside i) = field_place methods k n i
reason_place methods k n Nothing = method_place methods k

-- what has that side
abbrev pub side_word : Side → List ℕ
side_word Uncompressed = codes "header"
side_word Compressed = codes "packet"

-- what encodes the field, and its name
abbrev pub coded_words : List Method → ℕ → ℕ → ℕ → List ℕ
coded_words methods k n i = method_word methods (encoding_at methods k n i) None ++ codes " of " ++ field_name methods k n i

-- ---- the numbers by which a condition goes

abbrev pub parameter_at : List Method → ℕ → ℕ → Option (List ℕ)
parameter_at methods k i = option_and_then (λ m. slice_get m.parameters i) (slice_get methods k)

abbrev pub parameter_name : List Method → ℕ → ℕ → List ℕ
parameter_name methods k i = name_of (parameter_at methods k i)

abbrev pub subject_name : List Method → ℕ → ℕ → Subject → List ℕ
subject_name methods k n (subject.Field i) = field_name methods k n i
subject_name methods k n subject.This = codes "THIS"

abbrev pub attribute_word : Side → Measure → List ℕ
attribute_word Uncompressed Value = codes "UVALUE"
attribute_word Uncompressed Length = codes "ULENGTH"
attribute_word Compressed Value = codes "CVALUE"
attribute_word Compressed Length = codes "CLENGTH"

abbrev pub input_name : List Method → ℕ → ℕ → Input → List ℕ
input_name methods k n (input.Parameter i) = parameter_name methods k i
input_name methods k n (input.Attribute t) = subject_name methods k n t.subject ++ codes "." ++ attribute_word t.side t.measure

-- one number, and that of an attribute or a parameter
abbrev pub figure_words : List Method → ℕ → ℕ → Figure → List ℕ
figure_words methods k n f = codes "; " ++ input_name methods k n f.input ++ codes " is " ++ signed_decimal f.value

abbrev pub false_words : List Method → ℕ → ℕ → List Figure → List ℕ
false_words methods k n figures = codes "the condition is false" ++ flat_map (figure_words methods k n) figures

-- that a bracket has no length of its side, or that a condition is false
abbrev pub untrue_words : List Method → ℕ → ℕ → Option Constraint → List Figure → List ℕ
untrue_words methods k n (Some (Bracket i side lengths place)) figures = field_name methods k n i ++ codes " has no length here that this bracket has"
untrue_words methods k n (Some (Enforce condition place)) figures = false_words methods k n figures
untrue_words methods k n None figures = false_words methods k n figures

abbrev pub reason_words : Resolved → ℕ → ℕ → Reason → List ℕ
reason_words p k n (Dead o) = obstacle_words p k n o
reason_words p k n (Short length least) = decimal length ++ codes " bits are there, and at least " ++ decimal least ++ codes " are due"
reason_words p k n (Long length most) = decimal length ++ codes " bits are there, and at most " ++ decimal most ++ codes " may be"
reason_words p k n (Cut i left due) = coded_words p.methods k n i ++ codes ": " ++ decimal left ++ codes " bits are left, and " ++ decimal due ++ codes " are due"
reason_words p k n (NoReference i path) = coded_words p.methods k n i ++ codes ": the context has no entry " ++ string_bytes path ++ codes ", and INITIAL gives none"
reason_words p k n (Differs i side found due) = coded_words p.methods k n i ++ codes ": the " ++ side_word side ++ codes " has " ++ bits_text found ++ codes ", and " ++ bits_text due ++ codes " is due"
reason_words p k n (NoSide i side found) = coded_words p.methods k n i ++ codes ": the " ++ side_word side ++ codes " has " ++ bits_text found ++ codes ", with which nothing goes"
reason_words p k n (Untrue j figures) = untrue_words p.methods k n (slice_get (constraints_at p.methods k n) j) figures
reason_words p k n (Undefined at within) = codes "this has no value: it divides by 0, or its exponent is below 0"
reason_words p k n (Inside i) = codes "nothing goes in " ++ field_name p.methods k n i ++ codes ", by no format of " ++ method_word p.methods (encoding_at p.methods k n i) None
reason_words p k n Nothing = codes "nothing simple stands against it"

-- what stands against it, after the asked values by which it goes
abbrev pub line_words : Resolved → List AskedValue → Line → List ℕ
line_words p asked l = front_words l.depth p.methods l.method l.format asked l.reason ++ reason_words p l.method l.format l.reason

-- two blanks for each call on the way
abbrev pub indent : ℕ → List ℕ
indent depth = replicate depth 32 ++ replicate depth 32

-- a line and a column of the profile, the method and the format after some blanks, and what stands against it
abbrev pub reason_text : ℕ → ℕ → List ℕ → List ℕ → List ℕ → List ℕ → List ℕ
reason_text line column blanks method format words = codes "\n" ++ decimal line ++ codes ":" ++ decimal column ++ codes ": " ++ blanks ++ method ++ codes "." ++ format ++ codes ": " ++ words

abbrev pub reason_line : List ℕ → Resolved → List AskedValue → Line → List ℕ
reason_line octets p asked l =
    reason_text (line_of octets (reason_place p.methods l.method l.format l.reason).from) (column_of octets (reason_place p.methods l.method l.format l.reason).from) (indent l.depth)
    (method_name p.methods l.method) (format_name p.methods l.method l.format) (line_words p asked l)

abbrev pub lines_text : List ℕ → Resolved → List AskedValue → List Line → List ℕ
lines_text octets p asked lines = flat_map (reason_line octets p asked) lines

-- that there are more, where there are
abbrev pub rest_text : Bool → List ℕ
rest_text true = codes "\nmore stands against these formats, and only 4096 lines are told"
rest_text false = []

-- 4,096 lines at most, each after a line feed
abbrev pub reasons_text : List ℕ → Resolved → List AskedValue → List Line → List ℕ
reasons_text octets p asked lines = lines_text octets p asked (take 4096 lines) ++ rest_text (nat_lt 4096 (length lines))
