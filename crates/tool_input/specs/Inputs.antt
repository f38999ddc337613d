-- The lines that go in: items, packets and a context.
use Rattle.std.specs.Prelude.{◌≡◌, ◌==◌, ℕ, ◌≤◌, Bool, List, [], ◌∷◌, ◌++◌, length, Option, Some, None, IsTrue}
use Rattle.std.specs.Borrow.{Bor}
use Rattle.std.specs.List.{AllZip, slice_split}
use Rattle.std.specs.Str.{IsUtf8}
use Rattle.sem_bits.specs.Text.{ReadsAs}
use Rattle.sem_bits.specs.Lines.{numbered_lines, broken_line}
use Rattle.sem_context.specs.Entries.{Entries}
use Rattle.text_source.specs.Names.{is_name}
use Rattle.sem_context.specs.Text.{IsReading, IsFirstFault}
use Rattle.sem_filling.specs.declared.filling.Item.{Item}
use Rattle.sem_filling.specs.declared.filling.AskedValue.{AskedValue}
use Rattle.tool_input.specs.declared.inputs.BadLine.{BadLine}
use Rattle.tool_input.specs.declared.inputs.BadLine.TheVariants as bad

-- ---- a line

-- the text is read as these bits, which are as many as a text may have
pub record IsBits (text : List ℕ) (bits : List Bool) : Type 0 where
  pub reads : ReadsAs text bits
  pub short : length bits ≤ 65536

-- the word gives a field its value: its name, an equals sign, and the text of the bits
pub record IsValue (word : List ℕ) (v : AskedValue) : Type 0 where
  pub name_is : IsTrue (is_name v.name)
  pub spelled : List ℕ
  pub parts : word ≡ v.name ++ 61 ∷ spelled
  pub bits_are : IsBits spelled v.bits

-- the words of an item: the text of its header, then a word for each value
abbrev pub AreItemWords : List (List ℕ) → Item → Type 0
AreItemWords [] it = ⊥
AreItemWords (word ∷ words) it = IsBits word it.header × AllZip IsValue words it.asked

-- the line is read as this item: its words are those between the blanks
abbrev pub IsItem : List ℕ → Item → Type 0
IsItem line it = AreItemWords (slice_split (λ octet. octet == 32) line) it

-- ---- a part of lines, each of which is to be read as something

-- the lines are read as these, one by one
abbrev pub AreRead : {X : Type 0} → (List ℕ → X → Type 0) → List (ℕ × List ℕ) → List X → Type 0
AreRead reads lines inputs = AllZip (λ l x. reads l.1 x) lines inputs

-- the lines of a part, the empty ones left out, are read as these
pub record HasLines {X : Type 0} (reads : List ℕ → X → Type 0) (octets : List ℕ) (inputs : List X) : Type 0 where
  pub utf8 : IsUtf8 octets
  pub lines : AreRead reads (numbered_lines octets) inputs

-- The first line of a part that can't be read, by its number: where the part breaks UTF-8, else the first that is read as nothing.
pub data IsBadLine {X : Type 0} (reads : List ℕ → X → Type 0) (octets : List ℕ) : ℕ → Type 0 where
  broken : {n : ℕ} → (IsUtf8 octets → ⊥) → n ≡ broken_line octets → IsBadLine reads octets n
  unread : {n : ℕ} (front back : List (ℕ × List ℕ)) (text : List ℕ) (inputs : List X) → IsUtf8 octets → numbered_lines octets ≡ front ++ (n, text) ∷ back
      → AreRead reads front inputs → ((x : X) → reads text x → ⊥) → IsBadLine reads octets n

abbrev pub BlamesLine : {X : Type 0} → (List ℕ → X → Type 0) → BadLine → List ℕ → Type 0
BlamesLine reads (bad.Number n) octets = IsBadLine reads octets n
BlamesLine reads bad.OutOfMemory octets = Unit {0}

-- what an error says of octets that are no UTF-8
abbrev pub BlamesBroken : BadLine → List ℕ → Type 0
BlamesBroken (bad.Number n) octets = (IsUtf8 octets → ⊥) × (n ≡ broken_line octets)
BlamesBroken bad.OutOfMemory octets = Unit {0}

-- ---- the context

-- The context before the first line: that of the part, and an empty one where there is none.
pub data StartsAt : Option (Bor (List ℕ)) → Entries → Type 0 where
  absent : StartsAt None []
  given : (octets : Bor (List ℕ)) (ctx : Entries) → IsUtf8 octets.now → IsReading (numbered_lines octets.now) ctx → StartsAt (Some octets) ctx

-- The first line of a context that can't be read, by its number.
pub data IsBadContext (octets : List ℕ) : ℕ → Type 0 where
  broken_context : {n : ℕ} → (IsUtf8 octets → ⊥) → n ≡ broken_line octets → IsBadContext octets n
  unread_context : {n : ℕ} → IsUtf8 octets → IsFirstFault (numbered_lines octets) n → IsBadContext octets n

-- what an error says of the part, if there is one
abbrev pub BlamesContext : BadLine → Option (Bor (List ℕ)) → Type 0
BlamesContext (bad.Number n) None = ⊥
BlamesContext (bad.Number n) (Some octets) = IsBadContext octets.now n
BlamesContext bad.OutOfMemory part = Unit {0}
