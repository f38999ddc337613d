-- What stands behind the faults of a method's names.
use Rattle.std.specs.Prelude.{◌≡◌, ◌++◌, ℕ, Bool, List, [], map, Option, Some, None, slice_get, true, false, if◌then◌else◌}
use Rattle.std.specs.List.{filter_map}
use Rattle.text_source.specs.declared.span.Span.{Span}
use Rattle.text_tree.specs.declared.tree.SectionKind.{SectionKind}
use Rattle.text_tree.specs.declared.tree.SectionKind.TheVariants as kinds
use Rattle.text_tree.specs.declared.tree.Section.{Section}
use Rattle.text_tree.specs.declared.tree.Item.{Item}
use Rattle.text_tree.specs.declared.tree.Item.TheVariants as items
use Rattle.text_tree.specs.declared.tree.Method.{Method}
use Rattle.sem_profile.specs.declared.fault.ProfileFault.{ProfileFault}
use Rattle.text_sections.specs.declared.mention.Mention.{Mention}
use Rattle.text_sections.specs.declared.mention.Group.TheVariants as groups
use Rattle.text_sections.specs.declared.names.Lists.{Lists}
use Rattle.text_sections.specs.Mentions.{first_of, mentions_in, mentions_of, encoded, listed, is_in}
use Rattle.text_sections.specs.Sections.{incomplete}
use Rattle.text_sections.specs.Causes.{IsSecond, IsOneOf, defined_before, encoded_before, unknown, not_encoded, not_kept, look_in}

abbrev pub lists_of : List ℕ → List Section → Lists
lists_of text sections = record {
  base = mentions_in text groups.Base 0 sections;
  initial = mentions_in text groups.Initial 0 sections;
  default = mentions_in text groups.Default 0 sections;
  formats = mentions_in text groups.Formats 0 sections;
}

pub data ParameterCause (text : List ℕ) (constants : List Mention) (parameters : List Span) : ProfileFault → Type 0 where
  -- an earlier parameter has its name
  second_parameter : {f : ProfileFault} → IsSecond text (map listed parameters) f → ParameterCause text constants parameters f
  -- a constant has its name
  constant_too : {f : ProfileFault} → IsOneOf (defined_before text (first_of text constants)) (map listed parameters) f → ParameterCause text constants parameters f

abbrev pub name_of_format : SectionKind → Option Mention
name_of_format (kinds.Compressed (Some name)) = Some (listed name)
name_of_format _ = None

abbrev pub format_name : Section → Option Mention
format_name s = name_of_format s.kind

pub data EncodingCause (text : List ℕ) (lists : Lists) : ProfileFault → Type 0 where
  -- a format encodes a field that has an encoding for all formats
  in_format_too : {f : ProfileFault} → IsOneOf (encoded_before text (first_of text (encoded lists.base))) (encoded lists.formats) f → EncodingCause text lists f
  -- DEFAULT does
  in_default_too : {f : ProfileFault} → IsOneOf (encoded_before text (first_of text (encoded lists.base))) (encoded lists.default) f → EncodingCause text lists f

pub data KnownCause (text : List ℕ) (lists : Lists) : ProfileFault → Type 0 where
  -- an INITIAL name that is no header or control field
  unknown_initial : {f : ProfileFault} → IsOneOf (unknown text (first_of text lists.base)) lists.initial f → KnownCause text lists f
  -- a DEFAULT name that no format has
  unknown_default : {f : ProfileFault} → IsOneOf (unknown text (look_in (first_of text lists.base) (first_of text lists.formats))) lists.default f → KnownCause text lists f

pub data ContextCause (text : List ℕ) (lists : Lists) : ProfileFault → Type 0 where
  -- static or lsb on a name of a format that is no header or control field
  local_in_format : {f : ProfileFault} → IsOneOf (not_kept text (first_of text lists.base)) lists.formats f → ContextCause text lists f
  -- the same in DEFAULT
  local_in_default : {f : ProfileFault} → IsOneOf (not_kept text (first_of text lists.base)) lists.default f → ContextCause text lists f

-- an ENFORCE is no statement on a name
abbrev pub is_named : Item → Bool
is_named (items.Enforce at condition) = false
is_named _ = true

-- the mentions of a section, where it is a format
abbrev pub own_mentions : List ℕ → ℕ → Section → List Mention
own_mentions text place s = if is_in groups.Formats s.kind then mentions_of text place s.items else []

-- behind a fault of the section with this place, where these mentions encode fields for all formats
pub data SectionCause (text : List ℕ) (encodings : List Mention) (place : ℕ) (s : Section) : ProfileFault → Type 0 where
  -- a second statement on a name, in a section other than UNCOMPRESSED and CONTROL
  second_in_section : {f : ProfileFault} → is_in groups.Base s.kind ≡ false → IsSecond text (mentions_of text place s.items) f → SectionCause text encodings place s f
  -- a format lists a field that has no encoding
  unencoded_in_format : {f : ProfileFault} → is_in groups.Formats s.kind ≡ true
      → IsOneOf (not_encoded text (look_in (first_of text encodings) (first_of text (encoded (mentions_of text place s.items))))) (mentions_of text place s.items) f → SectionCause text encodings place s f

pub data SectionsCause (text : List ℕ) (encodings : List Mention) (sections : List Section) : ProfileFault → Type 0 where
  in_section : (k : ℕ) {s : Section} {f : ProfileFault} → slice_get sections k ≡ Some s → SectionCause text encodings k s f → SectionsCause text encodings sections f

pub data HeadCause (text : List ℕ) (constants : List Mention) (m : Method) : ProfileFault → Type 0 where
  -- not one UNCOMPRESSED, no format, or an unnamed format beside another
  lacks_sections : {f : ProfileFault} → incomplete m ≡ Some f → HeadCause text constants m f
  -- a parameter's name is given twice
  parameter : {f : ProfileFault} → ParameterCause text constants m.parameters f → HeadCause text constants m f
  -- an earlier format has its name
  second_format : {f : ProfileFault} → IsSecond text (filter_map format_name m.sections) f → HeadCause text constants m f

-- the mentions that encode fields for all formats, or for those that don't
abbrev pub for_all_formats : List ℕ → List Section → List Mention
for_all_formats text sections = encoded (mentions_in text groups.Base 0 sections ++ mentions_in text groups.Default 0 sections)

pub data FieldCause (text : List ℕ) (sections : List Section) : ProfileFault → Type 0 where
  -- a second statement on a name in UNCOMPRESSED and CONTROL together
  second_in_base : {f : ProfileFault} → IsSecond text (mentions_in text groups.Base 0 sections) f → FieldCause text sections f
  -- a field with an encoding for all formats has another one
  encoding : {f : ProfileFault} → EncodingCause text (lists_of text sections) f → FieldCause text sections f
  -- INITIAL or DEFAULT has a name that isn't known
  known : {f : ProfileFault} → KnownCause text (lists_of text sections) f → FieldCause text sections f
  -- a local field has static or lsb
  context : {f : ProfileFault} → ContextCause text (lists_of text sections) f → FieldCause text sections f
  -- a section of its own has a fault
  section : {f : ProfileFault} → SectionsCause text (for_all_formats text sections) sections f → FieldCause text sections f

-- behind a fault of a method's names and sections, where the constants have these names
pub data NameCause (text : List ℕ) (constants : List Mention) (m : Method) : ProfileFault → Type 0 where
  -- of its sections as a whole, its parameters or its formats' names
  head : {f : ProfileFault} → HeadCause text constants m f → NameCause text constants m f
  -- of its statements on fields
  field : {f : ProfileFault} → FieldCause text m.sections f → NameCause text constants m f
