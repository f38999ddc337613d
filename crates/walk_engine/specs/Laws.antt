-- What is written is read back (docs/DEFINITIONS.md, Packing and unpacking).
use Rattle.std.specs.Prelude.{◌≡◌, ℕ, Bool, List, ◌++◌, length}
use Rattle.sem_bits.specs.Cursor.{Place}
use Rattle.sem_context.specs.Entries.{Entries, bits_at}
use Rattle.sem_filling.specs.Entries.{next}
use Rattle.sem_filling.specs.Fillings.{item}
use Rattle.sem_filling.specs.declared.filling.Item.{Item}
use Rattle.cert_accepted.specs.Accepted.{Accepting, IsDeterminate}
use Rattle.walk_engine.specs.declared.reader.UnpackFault.{UnpackFault}
use Rattle.walk_engine.specs.declared.reader.UnpackFault.TheVariants.{OutOfMemory}
use Rattle.walk_engine.specs.declared.reader.Unpacked.{Unpacked}
use Rattle.walk_engine.specs.declared.search.Packed.{Packed}
use Rattle.walk_engine.specs.Reading as reading
use Rattle.walk_engine.specs.Writing as writing

-- the contexts are the same as maps
abbrev pub AreSame : Entries → Entries → Type 0
AreSame ctx other = (path : List ℕ) → bits_at ctx path ≡ bits_at other path

-- what was read is what was written, and just its bits were taken; the contexts go on as the same maps
pub record IsReadBack (ctx other : Entries) (it : Item) (p : Packed) (more : List Bool) (new : Place) (u : Unpacked) : Type 0 where
  pub item_is : item u.filling ≡ it
  pub header_is : u.header ≡ it.header
  pub filling_is : u.filling ≡ p.filling
  pub bits_is : u.bits ≡ length p.packed
  pub left_is : new.left ≡ more
  pub next_are : AreSame (next ctx p.filling) (next other u.filling)

-- Whatever `pack` writes for an item, followed by any bits, `unpack` in the same context reads as that item, consuming just the packed bits. It answers no fault but out of memory.
pub record ReadsBack (a : Accepting) (ctx other : Entries) (it : Item) (p : Packed) (more : List Bool) : Type 0 where
  pub read : (old new : Place) (u : Unpacked) → old.left ≡ p.packed ++ more → reading.IsUnpacked a other old new u → IsReadBack ctx other it p more new u
  pub never_refused : (e : UnpackFault) → reading.Blames e a other (p.packed ++ more) → e ≡ OutOfMemory

abbrev pub ReadBack : Type 0
ReadBack = (a : Accepting) → IsDeterminate a → (ctx other : Entries) → AreSame ctx other → (it : Item) (p : Packed) → writing.IsPacked a ctx it p → (more : List Bool) → ReadsBack a ctx other it p more
