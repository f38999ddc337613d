-- The statements of DEFAULT, judged apart from the formats that use them: a name in them has to be one that some format has (docs/NOTATION.md).
use Rattle.std.specs.Prelude.{ℕ, List, [], ◌++◌, Option, None, if◌then◌else◌}
use Rattle.std.specs.List.{flat_map}
use Rattle.text_tree.specs.declared.tree.Item.{Item}
use Rattle.text_tree.specs.declared.tree.Item.TheVariants as items
use Rattle.text_tree.specs.declared.tree.Section.{Section}
use Rattle.sem_profile.specs.declared.fault.ProfileFault.{ProfileFault}
use Rattle.sem_profile.specs.Precedence.{earlier, earliest}
use Rattle.text_sections.specs.declared.mention.Mention.{Mention}
use Rattle.text_sections.specs.declared.mention.Group.TheVariants as groups
pub use Rattle.text_sections.specs.Mentions.{names_of}
use Rattle.text_sections.specs.Mentions.{is_in, mentions_in, firsts}
use Rattle.text_statements.specs.Names.{Names, names}
use Rattle.text_statements.specs.declared.callee.Methods.{Methods}
pub use Rattle.text_statements.specs.Constraints.{item_fault}
pub use Rattle.text_statements.specs.Encodings.{fault_of}
use Rattle.text_methods.specs.declared.drafts.Setting.{Setting}

-- the fields that some format has: those of UNCOMPRESSED and CONTROL, and those that a format lists
abbrev pub all_fields : List ℕ → List Section → List Mention
all_fields text sections = firsts text (mentions_in text groups.Base 0 sections ++ mentions_in text groups.Formats 0 sections)

abbrev pub wide_scope : Setting → Names
wide_scope x = names x.text.now x.constants.now x.values.now x.parameters.now (names_of x.text.now (all_fields x.text.now x.sections.now))

-- the fault of a statement: of its encoding or of its bracket
abbrev pub bound_fault : Names → Methods → Item → Option ProfileFault
bound_fault s methods (items.Bound b) = earlier (fault_of s methods b.encoding) (item_fault s (items.Bound b))
bound_fault s methods (items.Field name bracket) = None
bound_fault s methods (items.Enforce at condition) = None

-- the statements of DEFAULT, in order
abbrev pub default_part : Section → List Item
default_part section = if is_in groups.Default section.kind then section.items else []

abbrev pub default_items : List Section → List Item
default_items sections = flat_map default_part sections

abbrev pub statement_fault : Setting → Item → Option ProfileFault
statement_fault x = bound_fault (wide_scope x) x.methods.now

-- the earliest fault in them
abbrev pub default_fault : Setting → Option ProfileFault
default_fault x = earliest (statement_fault x) (default_items x.sections.now)
