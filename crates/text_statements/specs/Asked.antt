-- Which control fields are asked (docs/NOTATION.md): the packer is given their values.
use Rattle.std.specs.Prelude.{◌≡◌, ℕ, ℤ, Bool, true, false, List, [], ◌∷◌, ◌++◌, Option, Some, None, if◌then◌else◌}
use Rattle.std.specs.List.{flat_map, list_any}
use Rattle.std.specs.Str.{bytes_eq}
use Rattle.text_source.specs.declared.span.Span.{Span}
use Rattle.text_tree.specs.declared.tree.Bound.{Bound}
use Rattle.text_tree.specs.declared.tree.Bracket.{Bracket}
use Rattle.text_tree.specs.declared.tree.Bracket.TheVariants as brackets
use Rattle.text_tree.specs.declared.tree.Expr.{Expr as Tree}
use Rattle.text_tree.specs.declared.tree.Item.{Item}
use Rattle.text_tree.specs.declared.tree.Item.TheVariants as items
use Rattle.text_tree.specs.declared.tree.Section.{Section}
use Rattle.text_tree.specs.declared.tree.SectionKind.{SectionKind}
use Rattle.text_tree.specs.declared.tree.SectionKind.TheVariants as kinds
use Rattle.sem_profile.specs.declared.fault.ProfileFault.{ProfileFault}
use Rattle.sem_profile.specs.Words.{word, with_word}
use Rattle.text_statements.specs.Constants.{IsValue, ValueFault}
use Rattle.text_statements.specs.Names.{Names}

abbrev pub is_control : SectionKind → Bool
is_control kinds.Control = true
is_control _ = false

abbrev pub control_part : Section → List Item
control_part section = if is_control section.kind then section.items else []

-- the statements of CONTROL, in order
abbrev pub control_items : List Section → List Item
control_items sections = flat_map control_part sections

abbrev pub single : List Tree → Option Tree
single [] = None
single (e ∷ []) = Some e
single (e ∷ f ∷ es) = None

abbrev pub length_in : Bracket → Option Tree
length_in (brackets.Variable at) = None
length_in (brackets.Lengths at lengths) = single lengths

-- the expression of a bracket that holds one
abbrev pub only_length : Option Bracket → Option Tree
only_length None = None
only_length (Some bracket) = length_in bracket

-- one of the names is this one
abbrev pub is_set : List (List ℕ) → List ℕ → Bool
is_set set name = list_any (bytes_eq name) set

-- The field that a statement declares is asked: it has a constant length, no encoding, and no ENFORCE sets it.
pub data IsAsked (s : Names) (set : List (List ℕ)) : Item → Span → Type 0 where
  is_asked : {name : Span} {bracket : Option Bracket} (length : Tree) (v : ℤ) → only_length bracket ≡ Some length → IsValue s length v
      → is_set set (word s.text name) ≡ false → IsAsked s set (items.Field name bracket) name

-- A statement asks for no field.
pub data IsNotAsked (s : Names) (set : List (List ℕ)) : Item → Type 0 where
  -- it gives an encoding
  encoded : {b : Bound} → IsNotAsked s set (items.Bound b)
  -- it is an ENFORCE
  enforces : {at : Span} {condition : Tree} → IsNotAsked s set (items.Enforce at condition)
  -- no bracket of one expression
  no_length : {name : Span} {bracket : Option Bracket} → only_length bracket ≡ None → IsNotAsked s set (items.Field name bracket)
  -- the expression is no constant with a value
  no_constant : {name : Span} {bracket : Option Bracket} (length : Tree) (f : ProfileFault) → only_length bracket ≡ Some length → ValueFault s length f
      → IsNotAsked s set (items.Field name bracket)
  -- an ENFORCE sets the field
  enforced : {name : Span} {bracket : Option Bracket} → is_set set (word s.text name) ≡ true → IsNotAsked s set (items.Field name bracket)

-- the names of the asked fields that statements declare, each once
pub data AreAsked (s : Names) (set : List (List ℕ)) : List Item → List (List ℕ) → Type 0 where
  no_items : AreAsked s set [] []
  asks : {statements : List Item} {names : List (List ℕ)} (item : Item) (name : Span) → AreAsked s set statements names → IsAsked s set item name
      → AreAsked s set (statements ++ item ∷ []) (with_word names (word s.text name))
  asks_none : {statements : List Item} {names : List (List ℕ)} (item : Item) → AreAsked s set statements names → IsNotAsked s set item
      → AreAsked s set (statements ++ item ∷ []) names

-- what is found for one statement
abbrev pub Asks : Names → List (List ℕ) → Item → Option Span → Type 0
Asks s set item (Some name) = IsAsked s set item name
Asks s set item None = IsNotAsked s set item

-- what is found for a field with one length
pub data FieldAsks (s : Names) (set : List (List ℕ)) (name : Span) (length : Tree) : Option Span → Type 0 where
  field_asked : (v : ℤ) → IsValue s length v → is_set set (word s.text name) ≡ false → FieldAsks s set name length (Some name)
  field_valueless : (f : ProfileFault) → ValueFault s length f → FieldAsks s set name length None
  field_enforced : is_set set (word s.text name) ≡ true → FieldAsks s set name length None

-- the statements are gone through after any others
abbrev pub AskedOn : Names → List (List ℕ) → List Item → List (List ℕ) → List (List ℕ) → Type 0
AskedOn s set statements old new = (before : List Item) → AreAsked s set before old → AreAsked s set (before ++ statements) new
