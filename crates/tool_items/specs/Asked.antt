-- What `why` prints of the asked values of an item in front of a reason: those that it goes by (docs/FORMATS.md).
use Rattle.std.specs.Prelude.{ℕ, zero, suc, Bool, false, List, [], ◌∷◌, ◌++◌, Option, Some, None, codes, flat_map, slice_get, if◌then◌else◌}
use Rattle.std.specs.List.{list_any}
use Rattle.std.specs.Str.{bytes_eq}
use Rattle.sem_expr.specs.Inputs.{inputs_of, condition_inputs_of}
use Rattle.sem_expr.specs.declared.expr.Measure.TheVariants.{Value}
use Rattle.sem_expr.specs.declared.expr.Side.{Side}
use Rattle.sem_expr.specs.declared.expr.Side.TheVariants.{Uncompressed, Compressed}
use Rattle.sem_expr.specs.declared.expr.Subject.{Subject}
use Rattle.sem_expr.specs.declared.expr.Subject.TheVariants as subject
use Rattle.sem_expr.specs.declared.inputs.Input.{Input}
use Rattle.sem_expr.specs.declared.inputs.Input.TheVariants as input
use Rattle.sem_filling.specs.declared.filling.AskedValue.{AskedValue}
use Rattle.sem_profile.specs.declared.profile.Constraint.{Constraint}
use Rattle.sem_profile.specs.declared.profile.Constraint.TheVariants.{Bracket, Enforce}
use Rattle.sem_profile.specs.declared.profile.CrcArguments.{CrcArguments}
use Rattle.sem_profile.specs.declared.profile.Encoding.{Encoding}
use Rattle.sem_profile.specs.declared.profile.Encoding.TheVariants as encoding
use Rattle.sem_profile.specs.declared.profile.Library.{Library}
use Rattle.sem_profile.specs.declared.profile.Library.TheVariants as library
use Rattle.sem_profile.specs.declared.profile.Method.{Method}
use Rattle.sem_filling.specs.declared.reason.Reason.{Reason}
use Rattle.sem_filling.specs.declared.reason.Reason.TheVariants.{Dead, Short, Long, Cut, NoReference, Differs, NoSide, Untrue, Undefined, Inside, Nothing}
use Rattle.sem_filling.specs.declared.reason.Within.{Within}
use Rattle.sem_filling.specs.declared.reason.Within.TheVariants.{Argument, Condition}
use Rattle.tool_input.specs.BitTexts.{bits_text}
use Rattle.tool_names.specs.Names.{encoding_at, constraints_at, field_name}

-- ---- what a reason goes by

abbrev pub crc_inputs : CrcArguments → List Input
crc_inputs crc = (inputs_of crc.bits ++ inputs_of crc.polynomial) ++ (inputs_of crc.initial ++ inputs_of crc.length)

abbrev pub library_inputs : Library → List Input
library_inputs (library.UncompressedValue len v) = inputs_of len ++ inputs_of v
library_inputs (library.CompressedValue len v) = inputs_of len ++ inputs_of v
library_inputs (library.Irregular len) = inputs_of len
library_inputs library.Static = []
library_inputs (library.Lsb k offset) = inputs_of k ++ inputs_of offset
library_inputs (library.Crc crc) = crc_inputs crc

abbrev pub encoding_inputs : Option Encoding → List Input
encoding_inputs None = []
encoding_inputs (Some encoding.Bare) = []
encoding_inputs (Some (encoding.Library l)) = library_inputs l
encoding_inputs (Some (encoding.Call k arguments)) = flat_map inputs_of arguments

abbrev pub constraint_inputs : Option Constraint → List Input
constraint_inputs None = []
constraint_inputs (Some (Bracket i side lengths place)) = []
constraint_inputs (Some (Enforce condition place)) = condition_inputs_of condition

-- the value of a field, and what its arguments go by
abbrev pub field_inputs : List Method → ℕ → ℕ → ℕ → List Input
field_inputs methods k n i = input.Attribute (record { subject = subject.Field i; side = Uncompressed; measure = Value }) ∷ encoding_inputs (encoding_at methods k n i)

-- what an argument of what encodes a field goes by, or a condition
abbrev pub within_inputs : List Method → ℕ → ℕ → Within → List Input
within_inputs methods k n (Argument i) = encoding_inputs (encoding_at methods k n i)
within_inputs methods k n (Condition j) = constraint_inputs (slice_get (constraints_at methods k n) j)

abbrev pub reason_inputs : List Method → ℕ → ℕ → Reason → List Input
reason_inputs methods k n (Dead o) = []
reason_inputs methods k n (Short length least) = []
reason_inputs methods k n (Long length most) = []
reason_inputs methods k n (Cut i left due) = []
reason_inputs methods k n (NoReference i path) = []
reason_inputs methods k n (Differs i side found due) = field_inputs methods k n i
reason_inputs methods k n (NoSide i side found) = field_inputs methods k n i
reason_inputs methods k n (Undefined at within) = within_inputs methods k n within
reason_inputs methods k n (Untrue j figures) = constraint_inputs (slice_get (constraints_at methods k n) j)
reason_inputs methods k n (Inside i) = field_inputs methods k n i
reason_inputs methods k n Nothing = []

-- ---- what stands in front of it

abbrev pub is_upper : Side → Bool → Bool
is_upper Uncompressed same = same
is_upper Compressed same = false

abbrev pub is_subject : List Method → ℕ → ℕ → List ℕ → Subject → Bool
is_subject methods k n name (subject.Field i) = bytes_eq (field_name methods k n i) name
is_subject methods k n name subject.This = false

-- the input is of the uncompressed side of a field of that name
abbrev pub is_of : List Method → ℕ → ℕ → List ℕ → Input → Bool
is_of methods k n name (input.Parameter i) = false
is_of methods k n name (input.Attribute t) = is_upper t.side (is_subject methods k n name t.subject)

abbrev pub value_words : AskedValue → List ℕ
value_words v = codes "asked " ++ v.name ++ codes " is " ++ bits_text v.bits ++ codes ", and "

unfoldable pub asked_word : List Method → ℕ → ℕ → List Input → AskedValue → List ℕ
asked_word methods k n inputs v = if list_any (is_of methods k n v.name) inputs then value_words v else []

-- the asked values among the inputs of a reason
abbrev pub asked_words : List Method → ℕ → ℕ → List AskedValue → Reason → List ℕ
asked_words methods k n asked r = flat_map (asked_word methods k n (reason_inputs methods k n r)) asked

-- inside a call nothing is asked
abbrev pub front_words : ℕ → List Method → ℕ → ℕ → List AskedValue → Reason → List ℕ
front_words zero methods k n asked r = asked_words methods k n asked r
front_words (suc depth) methods k n asked r = []
