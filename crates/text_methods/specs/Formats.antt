-- The format that a COMPRESSED section gives (docs/NOTATION.md).
use Rattle.std.specs.Prelude.{◌≡◌, ℕ, List, Option, None, map}
use Rattle.std.specs.List.{AllZip}
use Rattle.std.specs.Option.{option_map}
use Rattle.text_tree.specs.declared.tree.Section.{Section}
use Rattle.text_tree.specs.declared.tree.SectionKind.{SectionKind}
use Rattle.text_tree.specs.declared.tree.SectionKind.TheVariants as kinds
use Rattle.sem_profile.specs.declared.profile.Encoding.{Encoding}
use Rattle.sem_profile.specs.declared.profile.Format.{Format}
use Rattle.sem_profile.specs.Precedence.{earlier}
use Rattle.sem_profile.specs.Words.{word}
use Rattle.text_sections.specs.Fields.{place}
use Rattle.text_sections.specs.Mentions.{names_of}
use Rattle.text_methods.specs.declared.drafts.Setting.{Setting}
use Rattle.text_methods.specs.declared.formats.Resolved.{Resolved}
use Rattle.text_methods.specs.Constraints.{AreNumbered, statements}
use Rattle.text_methods.specs.Drafts.{own, fields, scope, chosen, encodings_fault, constraints_fault}
use Rattle.text_methods.specs.Encodings.{FieldMeans}
use Rattle.text_methods.specs.Fields.{joined}

-- the name after COMPRESSED, if there is one
abbrev pub name : List ℕ → SectionKind → Option (List ℕ)
name text (kinds.Compressed given) = option_map (word text) given
name text _ = None

pub record IsFormat (x : Setting) (number : ℕ) (section : Section) (f : Format) : Type 0 where
  pub name_is : f.name ≡ name x.text.now section.kind
  -- the encodings of its fields
  pub encodings : List Encoding
  pub encoded : AllZip (FieldMeans (scope x number section) x.methods.now x.sections.now) (chosen x number section) encodings
  pub fields_are : f.fields ≡ joined x (fields x number section) encodings
  pub listing_is : f.listing ≡ map (place x.text.now (names_of x.text.now (fields x number section))) (own x number section)
  pub constraints_are : AreNumbered (scope x number section) (statements (scope x number section) (chosen x number section) x.sections.now section.items) f.constraints

-- the earliest fault of the section's format, and where there is none the format
pub record IsResolved (x : Setting) (number : ℕ) (section : Section) (r : Resolved) : Type 0 where
  pub fault_is : r.fault ≡ earlier (encodings_fault x number section) (constraints_fault x number section)
  pub format_is : r.fault ≡ None → IsFormat x number section r.format
