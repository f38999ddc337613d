-- The encoding of a field of a format (docs/NOTATION.md).
use Rattle.std.specs.Prelude.{◌≡◌, ℕ, true, List, [], Option, Some, None, slice_get}
use Rattle.std.specs.Option.{option_and_then, option_map}
use Rattle.text_tree.specs.declared.tree.Encoding.{Encoding as TreeEncoding}
use Rattle.text_tree.specs.declared.tree.Item.{Item}
use Rattle.text_tree.specs.declared.tree.Item.TheVariants as items
use Rattle.text_tree.specs.declared.tree.Section.{Section}
use Rattle.sem_profile.specs.declared.fault.ProfileFault.{ProfileFault}
use Rattle.sem_profile.specs.declared.profile.Encoding.{Encoding}
use Rattle.sem_profile.specs.declared.profile.Encoding.TheVariants as encoding
use Rattle.sem_profile.specs.Precedence.{earlier, earliest}
use Rattle.text_sections.specs.declared.mention.Mention.{Mention}
use Rattle.text_sections.specs.Fields.{encoding_at}
use Rattle.text_statements.specs.Names.{Names}
use Rattle.text_statements.specs.declared.callee.Methods.{Methods}
use Rattle.text_statements.specs.Encodings.{Means, fault_of}
use Rattle.text_methods.specs.Constraints.{is_at, choice_of}

-- the encoding that a field's statement gives, as the tree has it
abbrev pub given : List Section → Option Mention → Option TreeEncoding
given sections choice = option_and_then (encoding_at sections) choice

pub data GivenMeans (s : Names) (methods : Methods) : Option TreeEncoding → Encoding → Type 0 where
  -- no statement encodes the field
  bare : GivenMeans s methods None encoding.Bare
  encoded : {e : TreeEncoding} {r : Encoding} → Means s methods e r → GivenMeans s methods (Some e) r

abbrev pub FieldMeans : Names → Methods → List Section → Option Mention → Encoding → Type 0
FieldMeans s methods sections choice e = GivenMeans s methods (given sections choice) e

abbrev pub given_fault : Names → Methods → Option TreeEncoding → Option ProfileFault
given_fault s methods None = None
given_fault s methods (Some e) = fault_of s methods e

abbrev pub field_fault : Names → Methods → List Section → Option Mention → Option ProfileFault
field_fault s methods sections choice = given_fault s methods (given sections choice)

-- the fault in the encoding of a statement, whether the field is encoded by it or by another one
abbrev pub own_fault : Names → Methods → Item → Option ProfileFault
own_fault s methods (items.Bound b) = fault_of s methods b.encoding
own_fault s methods (items.Field name bracket) = None
own_fault s methods (items.Enforce at condition) = None

-- the earliest fault of encodings: those of the fields, and all that the section gives, also where another section encodes the field
unfoldable pub format_fault : Names → Methods → List Section → List (Option Mention) → List Item → Option ProfileFault
format_fault s methods sections chosen items = earlier (earliest (field_fault s methods sections) chosen) (earliest (own_fault s methods) items)

-- ---- statements that need not be judged again

abbrev pub items_at : List Section → ℕ → Option (List Item)
items_at sections number = option_map (λ (s : Section). s.items) (slice_get sections number)

-- the choices whose encodings have no fault, where this is their earliest one
abbrev pub fine_ones : Option ProfileFault → List (Option Mention) → List (Option Mention)
fine_ones None chosen = chosen
fine_ones (Some f) chosen = []

-- the statements of the section of this number that a choice names have no fault in their encodings
abbrev pub AreFine : Names → Methods → List (Option Mention) → ℕ → List Item → Type 0
AreFine s methods fine number items =
    (field : Option ℕ) (place : ℕ) (item : Item) → is_at number place (choice_of fine field) ≡ true → slice_get items place ≡ Some item → own_fault s methods item ≡ None
