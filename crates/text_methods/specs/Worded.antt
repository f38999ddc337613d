-- The names of a tree are names of its text: each is a letter, then letters, digits and underscores (docs/FORMATS.md).
use Rattle.std.specs.Prelude.{ℕ, List, Some, IsTrue}
use Rattle.std.specs.List.{AllByRecursion}
use Rattle.text_tree.specs.declared.tree.Item.{Item}
use Rattle.text_tree.specs.declared.tree.Item.TheVariants as items
use Rattle.text_tree.specs.declared.tree.Method.{Method}
use Rattle.text_tree.specs.declared.tree.Part.{Part}
use Rattle.text_tree.specs.declared.tree.Part.TheVariants as parts
use Rattle.text_tree.specs.declared.tree.Section.{Section}
use Rattle.text_tree.specs.declared.tree.SectionKind.{SectionKind}
use Rattle.text_tree.specs.declared.tree.SectionKind.TheVariants as kinds
use Rattle.text_source.specs.declared.span.Span.{Span}
use Rattle.sem_profile.specs.Words.{is_named}
use Rattle.text_sections.specs.declared.mention.Mention.{Mention}

abbrev pub IsNamed : List ℕ → Span → Type 0
IsNamed text span = IsTrue (is_named text span)

-- the field of a statement
abbrev pub ItemIsWorded : List ℕ → Item → Type 0
ItemIsWorded text (items.Field name bracket) = IsNamed text name
ItemIsWorded text (items.Bound b) = IsNamed text b.name
ItemIsWorded text (items.Enforce at condition) = Unit {0}

-- the name after COMPRESSED
abbrev pub KindIsWorded : List ℕ → SectionKind → Type 0
KindIsWorded text (kinds.Compressed (Some name)) = IsNamed text name
KindIsWorded text _ = Unit {0}

pub record SectionIsWorded (text : List ℕ) (s : Section) : Type 0 where
  pub kind : KindIsWorded text s.kind
  pub items : AllByRecursion (ItemIsWorded text) s.items

abbrev pub AreSectionsWorded : List ℕ → List Section → Type 0
AreSectionsWorded text sections = AllByRecursion (SectionIsWorded text) sections

pub record MethodIsWorded (text : List ℕ) (m : Method) : Type 0 where
  pub name : IsNamed text m.name
  pub parameters : AllByRecursion (IsNamed text) m.parameters
  pub sections : AreSectionsWorded text m.sections

abbrev pub PartIsWorded : List ℕ → Part → Type 0
PartIsWorded text (parts.Method m) = MethodIsWorded text m
PartIsWorded text (parts.Constant c) = Unit {0}

-- those of all methods of a file
abbrev pub AreWorded : List ℕ → List Part → Type 0
AreWorded text all = AllByRecursion (PartIsWorded text) all

-- the names of mentions
abbrev pub AreMentionsWorded : List ℕ → List Mention → Type 0
AreMentionsWorded text mentions = AllByRecursion (λ (m : Mention). IsNamed text m.name) mentions
