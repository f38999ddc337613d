-- What UNCOMPRESSED, CONTROL and DEFAULT say, kept once for all formats of a method.
use Rattle.std.specs.Prelude.{◌≡◌, ℕ, Bool, true, List, [], Option, Some, None, is_some, slice_get}
use Rattle.std.specs.List.{AllZip, AllByRecursion}
use Rattle.std.specs.Option.{option_and_then}
use Rattle.std.specs.Prelude.{IfSome}
use Rattle.text_tree.specs.declared.tree.Encoding.{Encoding as TreeEncoding}
use Rattle.text_tree.specs.declared.tree.Item.{Item}
use Rattle.text_tree.specs.declared.tree.Item.TheVariants as items
use Rattle.text_tree.specs.declared.tree.Section.{Section}
use Rattle.sem_expr.specs.declared.expr.Side.TheVariants.{Uncompressed}
use Rattle.sem_profile.specs.declared.profile.Constraint.{Constraint}
use Rattle.sem_profile.specs.declared.profile.Encoding.{Encoding}
use Rattle.sem_profile.specs.declared.profile.Encoding.TheVariants.{Bare}
use Rattle.sem_profile.specs.Words.{word}
use Rattle.text_sections.specs.declared.mention.Mention.{Mention}
use Rattle.text_sections.specs.Fields.{in_field_order, encoding_of}
use Rattle.text_sections.specs.Tables.{IsTable}
use Rattle.text_sections.specs.Mentions.{firsts, names_of}
use Rattle.text_statements.specs.Names.{Names, names, field_of}
use Rattle.text_statements.specs.declared.callee.Methods.{Methods}
use Rattle.text_statements.specs.Constraints.{ItemMeans, item_fault}
use Rattle.text_statements.specs.Encodings.{Means, fault_of}
use Rattle.text_methods.specs.declared.drafts.Setting.{Setting}
use Rattle.text_methods.specs.declared.kept.Kept.{Kept}
use Rattle.text_methods.specs.declared.kept.KeptStatement.{KeptStatement}
use Rattle.text_methods.specs.declared.kept.KeptField.{KeptField}
use Rattle.text_methods.specs.Fields.{declared, initial_of}
use Rattle.text_methods.specs.Encodings.{FieldMeans, field_fault}

-- ---- one statement

-- its field is one of those that are known
abbrev pub names_field : Names → Item → Bool
names_field s (items.Field name bracket) = is_some (field_of s name)
names_field s (items.Bound b) = is_some (field_of s b.name)
names_field s (items.Enforce at condition) = true

-- its constraints are these, without a fault
pub record Says (s : Names) (item : Item) (cs : List Constraint) : Type 0 where
  pub named : names_field s item ≡ true
  pub means : ItemMeans s Uncompressed item cs
  pub fine : item_fault s item ≡ None

-- an encoding of the tree means this one, without a fault
pub record IsGiven (s : Names) (methods : Methods) (given : TreeEncoding) (e : Encoding) : Type 0 where
  pub means : Means s methods given e
  pub fine : fault_of s methods given ≡ None

-- it gives this encoding
pub data Gives (s : Names) (methods : Methods) (item : Item) (e : Encoding) : Type 0 where
  gives : {given : TreeEncoding} → encoding_of item ≡ Some given → IsGiven s methods given e → Gives s methods item e

pub record IsKept (s : Names) (methods : Methods) (item : Item) (statement : KeptStatement) : Type 0 where
  pub constraints : IfSome statement.constraints (Says s item)
  pub encoding : IfSome statement.encoding (Gives s methods item)

-- ---- those of sections

-- of each statement, or of none
pub data SectionIsKept (s : Names) (methods : Methods) (section : Section) : List KeptStatement → Type 0 where
  each : {statements : List KeptStatement} → AllZip (IsKept s methods) section.items statements → SectionIsKept s methods section statements
  none : SectionIsKept s methods section []

abbrev pub AreKept : Names → Methods → List Section → Kept → Type 0
AreKept s methods sections kept = AllZip (SectionIsKept s methods) sections kept.sections

-- what names stand for where the fields of UNCOMPRESSED and CONTROL alone are known
abbrev pub base_scope : Setting → Names
base_scope x = names x.text.now x.constants.now x.values.now x.parameters.now (names_of x.text.now (firsts x.text.now (in_field_order x.text.now x.sections.now [])))

-- ---- fields

-- the field of a mention, but for its encoding
abbrev pub kept_field : Setting → Mention → KeptField
kept_field x m = record { mention = m; declared = declared x m; initial = initial_of x.initial_names.now x.initial_values.now (word x.text.now m.name) }

abbrev pub IsKeptField : Setting → KeptField → Type 0
IsKeptField x k = k ≡ kept_field x k.mention

-- ---- the whole

pub record HasKept (x : Setting) (kept : Kept) : Type 0 where
  pub statements : AreKept (base_scope x) x.methods.now x.sections.now kept
  pub table : IsTable x.text.now (in_field_order x.text.now x.sections.now []) kept.table
  pub fields : AllByRecursion (IsKeptField x) kept.fields
  pub bare : kept.bare ≡ Bare

-- ---- what is looked up

abbrev pub statement_at : Kept → ℕ → ℕ → Option KeptStatement
statement_at kept section place = option_and_then (λ statements. slice_get statements place) (slice_get kept.sections section)

abbrev pub constraints_at : Kept → ℕ → ℕ → Option (List Constraint)
constraints_at kept section place = option_and_then (λ (t : KeptStatement). t.constraints) (statement_at kept section place)

abbrev pub encoding_kept : Kept → Mention → Option Encoding
encoding_kept kept m = option_and_then (λ (t : KeptStatement). t.encoding) (statement_at kept m.section m.item)

-- the constraints that are kept of a statement are what it says
abbrev pub IsSaid : Names → Kept → ℕ → ℕ → Item → Type 0
IsSaid s kept section place item = (cs : List Constraint) → constraints_at kept section place ≡ Some cs → Says s item cs

abbrev pub AreItemsSaid : Names → Kept → ℕ → List Item → Type 0
AreItemsSaid s kept section all = (place : ℕ) (item : Item) → slice_get all place ≡ Some item → IsSaid s kept section place item

abbrev pub AreSaid : Names → Kept → List Section → Type 0
AreSaid s kept sections = (k : ℕ) (section : Section) → slice_get sections k ≡ Some section → AreItemsSaid s kept k section.items

-- the encodings that are kept are what statements give
abbrev pub AreGiven : Names → Methods → Kept → List Section → Type 0
AreGiven s methods kept sections =
    (m : Mention) (e : Encoding) → encoding_kept kept m ≡ Some e → FieldMeans s methods sections (Some m) e × (field_fault s methods sections (Some m) ≡ None)
