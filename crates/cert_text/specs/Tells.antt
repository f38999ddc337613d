-- Which code the line has that can't come next (docs/FORMATS.md, The text of a certificate; docs/FAULTS.md).
use Rattle.std.specs.Prelude.{◌≡◌, ℕ, ◌^◌, ◌<◌, ◌≤◌, ◌⊎◌, List, [], ◌∷◌, ◌++◌, map, length, decimal, Some, IfSome, slice_get}
use Rattle.std.specs.List.{AllZip}
use Rattle.sem_profile.specs.declared.profile.Part.TheVariants.{Local}
use Rattle.sem_profile.specs.declared.profile.Field.{Field}
use Rattle.sem_profile.specs.declared.profile.Format.{Format}
use Rattle.sem_profile.specs.declared.profile.Method.{Method}
use Rattle.cert_text.specs.declared.faults.Fault.{Fault}
use Rattle.cert_text.specs.declared.faults.Fault.TheVariants.{BadWord, UnknownName, AboveLimits}
use Rattle.cert_types.specs.declared.certificate.Version.{Version}
use Rattle.cert_types.specs.declared.certificate.Node.{Node}
use Rattle.cert_types.specs.declared.certificate.Node.TheVariants.{Nowhere}
use Rattle.cert_types.specs.Kept.{depths, node_limit, depth_limit, step_limit}
use Rattle.cert_types.specs.Of.{field_names}
use Rattle.cert_text.specs.Due.{Begun, no_list, a_tree, a_plan, Due}
use Rattle.cert_text.specs.Table.{Kind, a_constraint, a_method, a_format, a_parameter, a_reference, a_field, Row, kinds, IsNodeRow, IsStepRow, IsInRange, HasShape}
use Rattle.cert_text.specs.Text.{name_of}

-- ---- names

-- one of these names
pub record IsAmong (names : List (List ℕ)) (name : List ℕ) : Type 0 where
  pub place : ℕ
  pub there : slice_get names place ≡ Some name

-- a method that the top reaches, which are those with formats
pub record IsReached (methods : List Method) (name : List ℕ) : Type 0 where
  pub place : ℕ
  pub method : Method
  pub there : slice_get methods place ≡ Some method
  pub named : method.name ≡ name
  pub reached : 0 < length method.formats

-- a header or control field of the method, which the first of its formats has like all others
pub record IsCommon (formats : List Format) (name : List ℕ) : Type 0 where
  pub first : Format
  pub place : ℕ
  pub field : Field
  pub is_first : slice_get formats 0 ≡ Some first
  pub there : slice_get first.fields place ≡ Some field
  pub named : field.declared.name ≡ name
  pub common : field.declared.part ≡ Local → ⊥

-- the number of a constraint of the format; numbers of constraints have 64 bits
pub record IsConstraint (format : Format) (word : List ℕ) : Type 0 where
  pub number : ℕ
  pub there : number < length format.constraints
  pub short : number < 2 ^ 64
  pub spelled : word ≡ decimal number

-- a word names what is there, of the profile or of the method or format that is being read; where none is, no name but a method's can be wrong
abbrev pub IsKnown : List Method → Due → Kind → List ℕ → Type 0
IsKnown methods due a_method word = IsReached methods word
IsKnown methods due a_format word = IfSome due.method (λ m. IsAmong (map (λ f. name_of f.name) m.formats) word)
IsKnown methods due a_parameter word = IfSome due.method (λ m. IsAmong m.parameters word)
IsKnown methods due a_reference word = IfSome due.method (λ m. IsCommon m.formats word)
IsKnown methods due a_field word = IfSome due.format (λ f. IsAmong (field_names f) word)
IsKnown methods due a_constraint word = IfSome due.format (λ f. IsConstraint f word)
IsKnown methods due _ word = Unit {0}

-- ---- places and counts

-- a node where the tree goes on, or a step where a plan does
abbrev pub MayFollow : Begun → Row → Type 0
MayFollow no_list row = ⊥
MayFollow (a_tree nodes) row = IsNodeRow row
MayFollow (a_plan steps) row = IsStepRow row

-- a node after these, whichever it is, is deeper than it may be
pub record IsDeep (nodes : List Node) : Type 0 where
  pub depth : ℕ
  pub next_is : slice_get (depths (1 ∷ []) (nodes ++ Nowhere ∷ [])) (length nodes) ≡ Some depth
  pub deep : depth_limit < depth

-- the tree or the plan may have no more
abbrev pub IsFull : Begun → Type 0
IsFull no_list = ⊥
IsFull (a_tree nodes) = (node_limit ≤ length nodes) ⊎ IsDeep nodes
IsFull (a_plan steps) = step_limit ≤ length steps

-- ---- codes

-- the words look like the line, and its numbers are in their ranges
pub record IsRanged (version : Version) (row : Row) (words : List (List ℕ)) : Type 0 where
  pub shape : HasShape version row words
  pub ranged : AllZip IsInRange (kinds row) words

-- and its names are known
pub record IsNamed (methods : List Method) (due : Due) (row : Row) (words : List (List ℕ)) : Type 0 where
  pub ranged : IsRanged due.version row words
  pub known : AllZip (IsKnown methods due) (kinds row) words

-- The code of a line of these words that can't come next, by what is due.
pub data Tells (methods : List Method) (due : Due) (words : List (List ℕ)) (fault : Fault) : Type 0 where
  -- it looks like no line
  shapeless : fault ≡ BadWord → ((row : Row) → HasShape due.version row words → ⊥) → Tells methods due words fault
  -- a number is out of its range
  out_of_range : fault ≡ AboveLimits → (row : Row) → HasShape due.version row words → (AllZip IsInRange (kinds row) words → ⊥) → Tells methods due words fault
  -- a name is not known
  unknown : fault ≡ UnknownName → (row : Row) → IsRanged due.version row words → (AllZip (IsKnown methods due) (kinds row) words → ⊥) → Tells methods due words fault
  -- all of it is known: it may not come there, or it is one too many
  misplaced : fault ≡ BadWord → (row : Row) → IsNamed methods due row words → (MayFollow due.begun row → ⊥) → Tells methods due words fault
  one_too_many : fault ≡ AboveLimits → (row : Row) → IsNamed methods due row words → MayFollow due.begun row → IsFull due.begun → Tells methods due words fault
