-- How a certificate grows as its lines are read one by one, for inner clauses alone: what is due after lines is `IsDue`.
use Rattle.std.specs.Prelude.{ℕ, zero, suc, ◌-◌, ◌^◌, ◌&&◌, Bool, true, false, if◌then◌else◌, List, [], ◌∷◌, ◌++◌, map, length, take, drop, Option, Some, None, slice_get, option_and_then, option_map, codes, decimal, nat_lt, nat_le, ℤ, pos, negsuc}
use Rattle.std.specs.Fmt.{signed_decimal}
use Rattle.std.specs.List.{position}
use Rattle.std.specs.Str.{bytes_eq}
use Rattle.std.specs.Str.Parse.{digits_value, signed_digits_value}
use Rattle.sem_expr.specs.declared.expr.Side.{Side}
use Rattle.sem_expr.specs.declared.expr.Side.TheVariants.{Uncompressed, Compressed}
use Rattle.sem_profile.specs.declared.profile.Part.{Part}
use Rattle.sem_profile.specs.declared.profile.Part.TheVariants as part
use Rattle.sem_profile.specs.declared.profile.Format.{Format}
use Rattle.sem_profile.specs.declared.profile.Method.{Method}
use Rattle.cert_types.specs.declared.certificate.Version.{Version}
use Rattle.cert_types.specs.declared.certificate.Version.TheVariants.{One, Two}
use Rattle.cert_types.specs.declared.certificate.Step.{Step}
use Rattle.cert_types.specs.declared.certificate.Step.TheVariants.{Take, Call, LibraryUp, LibraryDown, MethodLength, ConstraintLength, Solve, Choose, Ask}
use Rattle.cert_types.specs.declared.certificate.Node.{Node}
use Rattle.cert_types.specs.declared.certificate.Node.TheVariants.{Bit, Parameter, Reference, Leaf, Nowhere}
use Rattle.cert_types.specs.declared.certificate.FormatPlans.{FormatPlans}
use Rattle.cert_text.specs.declared.draft.Draft.{Draft}
use Rattle.cert_text.specs.declared.draft.Stage.{Stage}
use Rattle.cert_text.specs.declared.draft.Stage.TheVariants as stage
use Rattle.cert_types.specs.Kept.{Entries, owed_after, node_limit, depth_limit, offset_limit, step_limit}
pub use Rattle.cert_text.specs.Table.{words}
use Rattle.cert_text.specs.Text.{name_of}
use Rattle.cert_types.specs.Of.{of_format, of_method}

-- ---- words

-- the value, where the test holds
abbrev pub when : {A : Type 0} → Bool → A → Option A
when true x = Some x
when false x = None

-- the number of 64 bits below a limit that a word spells
abbrev pub number_below : ℕ → List ℕ → Option ℕ
number_below limit word = when (bytes_eq (decimal (digits_value 10 word)) word && (nat_lt (digits_value 10 word) limit && nat_lt (digits_value 10 word) (2 ^ 64))) (digits_value 10 word)

abbrev pub is_wide : ℤ → Bool
is_wide (pos n) = nat_lt n (2 ^ 127)
is_wide (negsuc n) = nat_lt n (2 ^ 127)

-- the number of 128 bits that a word spells
abbrev pub constant_of : List ℕ → Option ℤ
constant_of word = when (bytes_eq (signed_decimal (signed_digits_value 10 word)) word && is_wide (signed_digits_value 10 word)) (signed_digits_value 10 word)

-- the place of the first that goes by a name
abbrev pub place_by : {A : Type 0} → (A → List ℕ) → List ℕ → List A → Option ℕ
place_by name_by name xs = position (λ x. bytes_eq name (name_by x)) xs

abbrev pub method_place : List ℕ → List Method → Option ℕ
method_place name methods = place_by (λ m. m.name) name methods

abbrev pub parameter_place : List ℕ → Method → Option ℕ
parameter_place name method = place_by (λ p. p) name method.parameters

-- where a format without a name goes by -
abbrev pub format_place : List ℕ → Method → Option ℕ
format_place name method = place_by (λ f. name_of f.name) name method.formats

abbrev pub field_place : List ℕ → Format → Option ℕ
field_place name format = place_by (λ d. d.declared.name) name format.fields

-- a field that a format alone has
abbrev pub is_local : Part → Bool
is_local part.Local = true
is_local _ = false

abbrev pub common_place : Format → ℕ → Option ℕ
common_place format i = option_and_then (λ d. if is_local d.declared.part then None else Some i) (slice_get format.fields i)

-- the place of a header or control field, in the first format
abbrev pub reference_place : List ℕ → List Format → Option ℕ
reference_place name [] = None
reference_place name (format ∷ formats) = option_and_then (common_place format) (field_place name format)

-- the version of a name
abbrev pub version_named : List ℕ → Option Version
version_named name = if bytes_eq name (codes "1") then Some One else if bytes_eq name (codes "2") then Some Two else None

abbrev pub side_of : List ℕ → Option Side
side_of word = if bytes_eq word (codes "U") then Some Uncompressed else if bytes_eq word (codes "C") then Some Compressed else None

-- ---- nodes and steps

abbrev pub bare_node : List ℕ → Option Node
bare_node word = if bytes_eq word (codes "none") then Some Nowhere else None

abbrev pub node_by : Method → List ℕ → List ℕ → Option Node
node_by method word a =
    if bytes_eq word (codes "bit") then option_map Bit (number_below offset_limit a)
    else if bytes_eq word (codes "leaf") then option_map Leaf (format_place a method)
    else None

abbrev pub parameter_node : Method → List ℕ → List ℕ → Option Node
parameter_node method a b = option_and_then (λ i. option_map (Parameter i) (constant_of b)) (parameter_place a method)

abbrev pub reference_node : Method → List ℕ → List ℕ → List ℕ → Option Node
reference_node method word a b =
    if bytes_eq word (codes "ref") then option_and_then (λ i. option_map (Reference i) (constant_of b)) (reference_place a method.formats)
    else None

-- only the second version tests references
abbrev pub referring_node : Version → Method → List ℕ → List ℕ → List ℕ → Option Node
referring_node One method word a b = None
referring_node Two method word a b = reference_node method word a b

abbrev pub named_node : Version → Method → List ℕ → List ℕ → List ℕ → Option Node
named_node version method word a b = if bytes_eq word (codes "param") then parameter_node method a b else referring_node version method word a b

-- the node of a line, by its words
abbrev pub node_of : Version → Method → List ℕ → List (List ℕ) → Option Node
node_of version method word [] = bare_node word
node_of version method word (a ∷ []) = node_by method word a
node_of version method word (a ∷ b ∷ []) = named_node version method word a b
node_of version method word (a ∷ b ∷ c ∷ more) = None

-- a step on a field, by the other words of its line, where the format has so many constraints
abbrev pub plain_step : ℕ → List ℕ → Option Step
plain_step i word =
    if bytes_eq word (codes "take") then Some (Take i)
    else if bytes_eq word (codes "call") then Some (Call i)
    else if bytes_eq word (codes "choose") then Some (Choose i)
    else if bytes_eq word (codes "ask") then Some (Ask i)
    else None

abbrev pub step_by : ℕ → ℕ → List ℕ → List ℕ → Option Step
step_by constraints i word a =
    if bytes_eq word (codes "solve") then option_map (Solve i) (number_below constraints a)
    else if bytes_eq word (codes "library") then (if bytes_eq a (codes "up") then Some (LibraryUp i) else if bytes_eq a (codes "down") then Some (LibraryDown i) else None)
    else None

abbrev pub length_step : ℕ → ℕ → List ℕ → List ℕ → List ℕ → Option Step
length_step constraints i word a b =
    if bytes_eq word (codes "length") then option_and_then (λ side. if bytes_eq b (codes "method") then Some (MethodLength i side) else option_map (ConstraintLength i side) (number_below constraints b)) (side_of a)
    else None

abbrev pub step_on : ℕ → ℕ → List ℕ → List (List ℕ) → Option Step
step_on constraints i word [] = plain_step i word
step_on constraints i word (a ∷ []) = step_by constraints i word a
step_on constraints i word (a ∷ b ∷ []) = length_step constraints i word a b
step_on constraints i word (a ∷ b ∷ c ∷ more) = None

-- the step of a line, by its words
abbrev pub step_of : Format → List ℕ → List (List ℕ) → Option Step
step_of format word [] = None
step_of format word (a ∷ more) = option_and_then (λ i. step_on (length format.constraints) i word more) (field_place a format)

-- ---- what is open

abbrev pub open_method : List Method → Draft → Option Method
open_method methods d = slice_get methods (length d.entries)

abbrev pub open_format : List Method → Draft → Option Format
open_format methods d = option_and_then (λ m. slice_get m.formats (length d.formats)) (open_method methods d)

-- at another stage
abbrev pub at : Stage → Draft → Draft
at next d = record { version = d.version; stage = next; entries = d.entries; tree = d.tree; owed = d.owed; formats = d.formats; read = d.read; write = d.write }

-- formats without plans, from the place where so many were up to another place
abbrev pub blank : Format → FormatPlans
blank format = of_format format None

abbrev pub blanks : List Format → ℕ → ℕ → List FormatPlans
blanks formats from to = map blank (drop from (take to formats))

abbrev pub nones : ℕ → Entries
nones zero = []
nones (suc n) = None ∷ nones n

-- ---- what is closed by the next heading

-- the format
abbrev pub with_format : Draft → Format → Draft
with_format d format = record {
  version = d.version;
  stage = stage.Formats;
  entries = d.entries;
  tree = d.tree;
  owed = d.owed;
  formats = d.formats ++ of_format format (Some record { read = d.read; write = d.write }) ∷ [];
  read = [];
  write = [];
}

abbrev pub close_format_at : Stage → Draft → Option Format → Draft
close_format_at stage.Write d (Some format) = with_format d format
close_format_at _ d _ = d

abbrev pub close_format : List Method → Draft → Draft
close_format methods d = close_format_at d.stage d (open_format methods d)

-- the method
abbrev pub with_method : Draft → Method → Draft
with_method d method = record {
  version = d.version;
  stage = stage.Between;
  entries = d.entries ++ Some (of_method method d.tree (d.formats ++ blanks method.formats (length d.formats) (length method.formats))) ∷ [];
  tree = [];
  owed = d.owed;
  formats = [];
  read = d.read;
  write = d.write;
}

abbrev pub close_method_at : Stage → Draft → Option Method → Draft
close_method_at stage.Formats d (Some method) = with_method d method
close_method_at _ d _ = d

abbrev pub close_method : List Method → Draft → Draft
close_method methods d = close_method_at d.stage d (open_method methods d)

-- ---- lines

abbrev pub is_stage : Stage → Stage → Bool
is_stage stage.Version stage.Version = true
is_stage stage.Between stage.Between = true
is_stage stage.Tree stage.Tree = true
is_stage stage.Formats stage.Formats = true
is_stage stage.Head stage.Head = true
is_stage stage.Read stage.Read = true
is_stage stage.Write stage.Write = true
is_stage stage.End stage.End = true
is_stage _ _ = false

-- nothing is said of the methods up to a place
abbrev pub with_nones : Stage → Draft → ℕ → Draft
with_nones next d to = record { version = d.version; stage = next; entries = d.entries ++ nones (to - length d.entries); tree = d.tree; owed = d.owed; formats = d.formats; read = d.read; write = d.write }

-- no plans are there of the formats up to a place
abbrev pub with_blanks : Stage → Draft → Method → ℕ → Draft
with_blanks next d method to = record { version = d.version; stage = next; entries = d.entries; tree = d.tree; owed = d.owed; formats = d.formats ++ blanks method.formats (length d.formats) to; read = d.read; write = d.write }

abbrev pub with_owed : Draft → List ℕ → Draft
with_owed d owed = record { version = d.version; stage = d.stage; entries = d.entries; tree = d.tree; owed = owed; formats = d.formats; read = d.read; write = d.write }

-- the version of that name is begun
abbrev pub with_version : Version → Draft → Draft
with_version version d = record { version = version; stage = stage.Between; entries = d.entries; tree = d.tree; owed = d.owed; formats = d.formats; read = d.read; write = d.write }

abbrev pub begin : Draft → List ℕ → Option Draft
begin d name = option_and_then (λ version. when (is_stage d.stage stage.Version) (with_version version d)) (version_named name)

-- the method of that name is begun
abbrev pub begin_method : List Method → Draft → List ℕ → Option Draft
begin_method methods d name =
    option_and_then (λ k. option_and_then (λ m. when (is_stage d.stage stage.Between && (nat_le (length d.entries) k && nat_lt 0 (length m.formats))) (with_owed (with_nones stage.Tree d k) (1 ∷ d.owed))) (slice_get methods k))
    (method_place name methods)

-- the format of that name is begun
abbrev pub begin_format : List Method → Draft → List ℕ → Option Draft
begin_format methods d name =
    option_and_then (λ m. option_and_then (λ n. when (is_stage d.stage stage.Formats && nat_le (length d.formats) n) (with_blanks stage.Head d m n)) (format_place name m)) (open_method methods d)

-- all is read
abbrev pub finish : List Method → Draft → Option Draft
finish methods d = when (is_stage d.stage stage.Between) (with_nones stage.End d (length methods))

-- after the last node of a tree come formats
abbrev pub after_node : List ℕ → Stage
after_node [] = stage.Formats
after_node (d ∷ owed) = stage.Tree

-- a node at the depth that is next
abbrev pub with_node_at : Draft → Node → List ℕ → Option Draft
with_node_at d node [] = None
with_node_at d node (depth ∷ owed) =
    when (nat_lt (length d.tree) node_limit && nat_le depth depth_limit)
    (record { version = d.version; stage = after_node (owed_after node depth owed); entries = d.entries; tree = d.tree ++ node ∷ []; owed = owed_after node depth owed; formats = d.formats; read = d.read; write = d.write })

abbrev pub with_node : Draft → Node → Option Draft
with_node d node = with_node_at d node d.owed

abbrev pub with_read : Draft → Step → Option Draft
with_read d step = when (nat_lt (length d.read) step_limit) (record { version = d.version; stage = d.stage; entries = d.entries; tree = d.tree; owed = d.owed; formats = d.formats; read = d.read ++ step ∷ []; write = d.write })

abbrev pub with_write : Draft → Step → Option Draft
with_write d step = when (nat_lt (length d.write) step_limit) (record { version = d.version; stage = d.stage; entries = d.entries; tree = d.tree; owed = d.owed; formats = d.formats; read = d.read; write = d.write ++ step ∷ [] })

-- a line that is no heading
abbrev pub inner_at : Stage → List Method → Draft → List ℕ → List (List ℕ) → Option Draft
inner_at stage.Tree methods d word more = option_and_then (λ m. option_and_then (with_node d) (node_of d.version m word more)) (open_method methods d)
inner_at stage.Read methods d word more = option_and_then (λ f. option_and_then (with_read d) (step_of f word more)) (open_format methods d)
inner_at stage.Write methods d word more = option_and_then (λ f. option_and_then (with_write d) (step_of f word more)) (open_format methods d)
inner_at _ methods d word more = None

-- a heading of one word, and of two
abbrev pub one_word : List Method → Draft → List ℕ → Option Draft
one_word methods d word =
    if bytes_eq word (codes "read") then when (is_stage d.stage stage.Head) (at stage.Read d)
    else if bytes_eq word (codes "write") then when (is_stage d.stage stage.Read) (at stage.Write d)
    else if bytes_eq word (codes "end") then finish methods (close_method methods (close_format methods d))
    else inner_at d.stage methods d word []

abbrev pub two_words : List Method → Draft → List ℕ → List ℕ → Option Draft
two_words methods d word name =
    if bytes_eq word (codes "method") then begin_method methods (close_method methods (close_format methods d)) name
    else if bytes_eq word (codes "format") then begin_format methods (close_format methods d) name
    else if bytes_eq word (codes "rohcfn-certificate") then begin d name
    else inner_at d.stage methods d word (name ∷ [])

-- what the words of a line make of a draft, where they may come next
abbrev pub next : List Method → Draft → List (List ℕ) → Option Draft
next methods d [] = None
next methods d (word ∷ []) = one_word methods d word
next methods d (word ∷ name ∷ []) = two_words methods d word name
next methods d (word ∷ a ∷ b ∷ more) = inner_at d.stage methods d word (a ∷ b ∷ more)

-- what lines make of it, one after the other
abbrev pub read_lines : List Method → Draft → List (List ℕ) → Option Draft
read_lines methods d [] = Some d
read_lines methods d (line ∷ lines) = option_and_then (λ e. read_lines methods e lines) (next methods d (words line))

-- before the first line
abbrev pub start : Draft
start = record { version = One; stage = stage.Version; entries = []; tree = []; owed = []; formats = []; read = []; write = [] }
