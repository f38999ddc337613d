-- The parts of a format, side by side (docs/NOTATION.md).
use Rattle.std.specs.Prelude.{◌≡◌, ℕ, List, Option, None, map}
use Rattle.std.specs.List.{AllZip}
use Rattle.text_tree.specs.declared.tree.Section.{Section}
use Rattle.sem_profile.specs.declared.fault.ProfileFault.{ProfileFault}
use Rattle.sem_profile.specs.Precedence.{earlier}
use Rattle.text_sections.specs.declared.mention.Mention.{Mention}
use Rattle.text_sections.specs.declared.mention.Group.TheVariants as groups
use Rattle.text_sections.specs.Mentions.{mentions_of, mentions_in, encoded, first_of, firsts, names_of}
use Rattle.text_sections.specs.Fields.{in_field_order, place, encoding}
use Rattle.text_sections.specs.Causes.{earliest}
use Rattle.text_statements.specs.Names.{Names, names}
use Rattle.text_methods.specs.declared.drafts.Setting.{Setting}
use Rattle.text_methods.specs.declared.drafts.Draft.{Draft}
use Rattle.text_methods.specs.Encodings.{FieldMeans, format_fault}
use Rattle.text_methods.specs.Constraints.{AreNumbered, statements, statement_fault}

-- the tables of a setting are those of the encoded fields of UNCOMPRESSED and CONTROL, and of DEFAULT
abbrev pub base : Setting → List Mention
base x = encoded (mentions_in x.text.now groups.Base 0 x.sections.now)

abbrev pub default : Setting → List Mention
default x = encoded (mentions_in x.text.now groups.Default 0 x.sections.now)

-- the fields that the section gives
abbrev pub own : Setting → ℕ → Section → List Mention
own x number section = mentions_of x.text.now number section.items

-- the fields of the format, in field order
abbrev pub fields : Setting → ℕ → Section → List Mention
fields x number section = firsts x.text.now (in_field_order x.text.now x.sections.now (own x number section))

-- what the names in its expressions stand for
abbrev pub scope : Setting → ℕ → Section → Names
scope x number section = names x.text.now x.constants.now x.values.now x.parameters.now (names_of x.text.now (fields x number section))

-- for each field the statement that encodes it, where a section gives these fields
abbrev pub chosen_by : Setting → List Mention → List Mention → List (Option Mention)
chosen_by x given all = map (encoding x.text.now (first_of x.text.now (base x)) (first_of x.text.now (encoded given)) (first_of x.text.now (default x))) all

abbrev pub chosen : Setting → ℕ → Section → List (Option Mention)
chosen x number section = chosen_by x (own x number section) (fields x number section)

abbrev pub encodings_fault : Setting → ℕ → Section → Option ProfileFault
encodings_fault x number section = format_fault (scope x number section) x.methods.now x.sections.now (chosen x number section) section.items

abbrev pub constraints_fault : Setting → ℕ → Section → Option ProfileFault
constraints_fault x number section =
    earliest (statement_fault (scope x number section)) (statements (scope x number section) (chosen x number section) x.sections.now section.items)

-- the format of the section of this number
pub record IsDraft (x : Setting) (number : ℕ) (section : Section) (d : Draft) : Type 0 where
  pub fields_are : d.fields.firsts ≡ fields x number section
  pub words_are : d.fields.words ≡ names_of x.text.now (fields x number section)
  pub listing_is : d.listing ≡ map (place x.text.now (names_of x.text.now (fields x number section))) (own x number section)
  pub fault_is : d.fault ≡ earlier (encodings_fault x number section) (constraints_fault x number section)
  pub encodings_are : d.fault ≡ None → AllZip (FieldMeans (scope x number section) x.methods.now x.sections.now) (chosen x number section) d.encodings
  pub constraints_are : d.fault ≡ None
      → AreNumbered (scope x number section) (statements (scope x number section) (chosen x number section) x.sections.now section.items) d.constraints
