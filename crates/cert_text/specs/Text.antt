-- The text of a certificate, line by line (docs/FORMATS.md, Certificates).
use Rattle.std.specs.Prelude.{ℕ, List, [], ◌∷◌, ◌++◌, map, Option, Some, None, codes, decimal, flat_map, slice_get}
use Rattle.std.specs.Fmt.{signed_decimal}
use Rattle.sem_expr.specs.declared.expr.Side.{Side}
use Rattle.sem_expr.specs.declared.expr.Side.TheVariants.{Uncompressed, Compressed}
use Rattle.cert_types.specs.declared.certificate.Version.{Version}
use Rattle.cert_types.specs.declared.certificate.Version.TheVariants.{One, Two}
use Rattle.cert_types.specs.declared.certificate.Step.{Step}
use Rattle.cert_types.specs.declared.certificate.Step.TheVariants.{Take, Call, LibraryUp, LibraryDown, MethodLength, ConstraintLength, Solve, Choose, Ask}
use Rattle.cert_types.specs.declared.certificate.Node.{Node}
use Rattle.cert_types.specs.declared.certificate.Node.TheVariants.{Bit, Parameter, Reference, Leaf, Nowhere}
use Rattle.cert_types.specs.declared.certificate.Plans.{Plans}
use Rattle.cert_types.specs.declared.certificate.FormatPlans.{FormatPlans}
use Rattle.cert_types.specs.declared.certificate.MethodPlans.{MethodPlans}
use Rattle.cert_types.specs.Kept.{Certified}
use Rattle.cert_types.specs.Steps.{field_of}

-- a name; one that is not there is called -
abbrev pub name_of : Option (List ℕ) → List ℕ
name_of (Some name) = name
name_of None = codes "-"

-- the name at an index
abbrev pub name_at : List (List ℕ) → ℕ → List ℕ
name_at names i = name_of (slice_get names i)

-- the name of a format
abbrev pub format_name : Option FormatPlans → List ℕ
format_name (Some format) = name_of format.name
format_name None = codes "-"

-- the names of the fields of the first format, among which are the header and control fields of the method
abbrev pub first_names : List FormatPlans → List (List ℕ)
first_names [] = []
first_names (format ∷ formats) = format.fields

-- a side
abbrev pub side_word : Side → List ℕ
side_word Uncompressed = codes "U"
side_word Compressed = codes "C"

-- a node of the tree
abbrev pub node_line : MethodPlans → Node → List ℕ
node_line method (Bit offset) = codes "bit " ++ decimal offset
node_line method (Parameter i constant) = codes "param " ++ name_at method.parameters i ++ codes " " ++ signed_decimal constant
node_line method (Reference i constant) = codes "ref " ++ name_at (first_names method.formats) i ++ codes " " ++ signed_decimal constant
node_line method (Leaf n) = codes "leaf " ++ format_name (slice_get method.formats n)
node_line method Nowhere = codes "none"

-- a length that the library method gives
abbrev pub method_length : List ℕ → List ℕ → List ℕ
method_length name side = codes "length " ++ name ++ codes " " ++ side ++ codes " method"

-- a step, by the name of its field
abbrev pub step_words : List ℕ → Step → List ℕ
step_words name (Take i) = codes "take " ++ name
step_words name (Call i) = codes "call " ++ name
step_words name (LibraryUp i) = codes "library " ++ name ++ codes " up"
step_words name (LibraryDown i) = codes "library " ++ name ++ codes " down"
step_words name (MethodLength i side) = method_length name (side_word side)
step_words name (ConstraintLength i side n) = codes "length " ++ name ++ codes " " ++ side_word side ++ codes " " ++ decimal n
step_words name (Solve i n) = codes "solve " ++ name ++ codes " " ++ decimal n
step_words name (Choose i) = codes "choose " ++ name
step_words name (Ask i) = codes "ask " ++ name

-- a step, by the names of the fields
abbrev pub step_line : List (List ℕ) → Step → List ℕ
step_line fields step = step_words (name_at fields (field_of step)) step

-- a format and its plans, nothing where it has none
abbrev pub plans_lines : List ℕ → List (List ℕ) → Option Plans → List (List ℕ)
plans_lines name fields None = []
plans_lines name fields (Some plans) =
    (codes "format " ++ name) ∷ codes "read" ∷ map (step_line fields) plans.read ++ codes "write" ∷ map (step_line fields) plans.write

abbrev pub format_lines : FormatPlans → List (List ℕ)
format_lines format = plans_lines (name_of format.name) format.fields format.plans

-- a method, its tree and its formats; nothing of a method that the certificate doesn't name
abbrev pub method_lines : Option MethodPlans → List (List ℕ)
method_lines None = []
method_lines (Some method) = (codes "method " ++ method.name) ∷ map (node_line method) method.tree ++ flat_map format_lines method.formats

-- a version
abbrev pub version_word : Version → List ℕ
version_word One = codes "1"
version_word Two = codes "2"

-- all lines
abbrev pub certificate_lines : Certified → List (List ℕ)
certificate_lines c = (codes "rohcfn-certificate " ++ version_word c.version) ∷ flat_map method_lines c.methods ++ codes "end" ∷ []

-- a line with its line feed
abbrev pub ended : List ℕ → List ℕ
ended line = line ++ 10 ∷ []

-- lines, one after the other
abbrev pub spelled : List (List ℕ) → List ℕ
spelled = flat_map ended

-- the text
abbrev pub certificate_text : Certified → List ℕ
certificate_text c = spelled (certificate_lines c)
