-- The formats of a method, a format for each COMPRESSED section.
use Rattle.std.specs.Prelude.{◌≡◌, ℕ, ◌+◌, true, false, List, [], ◌∷◌, ◌++◌, Some, None, slice_get}
use Rattle.text_tree.specs.declared.tree.Section.{Section}
use Rattle.sem_profile.specs.declared.profile.Format.{Format}
use Rattle.sem_profile.specs.declared.fault.ProfileFault.{ProfileFault}
use Rattle.sem_profile.specs.Precedence.{earlier}
use Rattle.text_sections.specs.declared.mention.Group.TheVariants as groups
use Rattle.text_sections.specs.Mentions.{is_in}
use Rattle.text_methods.specs.declared.drafts.Setting.{Setting}
use Rattle.text_methods.specs.Drafts.{encodings_fault, constraints_fault}
use Rattle.text_methods.specs.Formats.{IsFormat}
use Rattle.text_methods.specs.declared.method_formats.Formats.{Formats}

-- the formats that sections give in their order, where the first section has the number
pub data AreFormats (x : Setting) : ℕ → List Section → List Format → Type 0 where
  no_sections : {k : ℕ} → AreFormats x k [] []
  -- a COMPRESSED section gives its format
  gives : {k : ℕ} {section : Section} {sections : List Section} {format : Format} {formats : List Format} → is_in groups.Formats section.kind ≡ true → IsFormat x k section format
      → AreFormats x (k + 1) sections formats → AreFormats x k (section ∷ sections) (format ∷ formats)
  -- another section gives none
  gives_none : {k : ℕ} {section : Section} {sections : List Section} {formats : List Format} → is_in groups.Formats section.kind ≡ false
      → AreFormats x (k + 1) sections formats → AreFormats x k (section ∷ sections) formats

-- a format has a fault in the encoding of a field or in a constraint
pub data FormatCause (x : Setting) : ProfileFault → Type 0 where
  in_format : {section : Section} {f : ProfileFault} (k : ℕ) → slice_get x.sections.now k ≡ Some section → is_in groups.Formats section.kind ≡ true
      → earlier (encodings_fault x k section) (constraints_fault x k section) ≡ Some f → FormatCause x f

-- what is found so far, where these sections are still to come
pub record Leads (x : Setting) (k : ℕ) (rest : List Section) (all : Formats) : Type 0 where
  pub finds : all.fault ≡ None → (formats : List Format) → AreFormats x k rest formats → AreFormats x 0 x.sections.now (all.found ++ formats)
  pub causes : (f : ProfileFault) → all.fault ≡ Some f → FormatCause x f
