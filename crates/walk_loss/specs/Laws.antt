-- What is packed in one context and read in another (docs/DEFINITIONS.md, Losses).
use Rattle.std.specs.Prelude.{◌≡◌, ◌↔◌, ℕ, Bool, List, [], ◌++◌, None, length, reverse}
use Rattle.sem_bits.specs.Cursor.{Place}
use Rattle.sem_context.specs.Entries.{Entries, bits_at}
use Rattle.sem_filling.specs.declared.filling.Item.{Item}
use Rattle.sem_filling.specs.Entries.{entries, next}
use Rattle.sem_filling.specs.Fillings.{item}
use Rattle.cert_accepted.specs.Accepted.{Accepting, IsDeterminate}
use Rattle.walk_engine.specs.declared.reader.Unpacked.{Unpacked}
use Rattle.walk_engine.specs.declared.reader.UnpackFault.{UnpackFault}
use Rattle.walk_engine.specs.declared.reader.UnpackFault.TheVariants.{OutOfMemory}
use Rattle.walk_engine.specs.declared.search.Packed.{Packed}
use Rattle.walk_engine.specs.Reading as reading
use Rattle.walk_engine.specs.Writing as writing
use Rattle.sem_elsewhere.specs.Uses.{AllServe}
use Rattle.walk_loss.specs.declared.reception.Heard.{Heard}
use Rattle.walk_loss.specs.declared.reception.HeardKind.TheVariants.{Right}
use Rattle.walk_loss.specs.declared.unserved.Unserved.{Unserved}
use Rattle.walk_loss.specs.Reception.{IsHeard, kind}
use Rattle.walk_loss.specs.Unserved.{HasUnserved}

-- what was read is what was packed, and just its bits were taken; at each path of its entries the receiver's context is then as the sender's
pub record IsReadThere (ctx other : Entries) (it : Item) (p : Packed) (more : List Bool) (new : Place) (u : Unpacked) : Type 0 where
  pub item_is : item u.filling ≡ it
  pub header_is : u.header ≡ it.header
  pub filling_is : u.filling ≡ p.filling
  pub bits_is : u.bits ≡ length p.packed
  pub left_is : new.left ≡ more
  pub agree : (path : List ℕ) → (bits_at (reverse (entries p.filling)) path ≡ None → ⊥) → bits_at (next ctx p.filling) path ≡ bits_at (next other u.filling) path

pub record ReadsThere (a : Accepting) (ctx other : Entries) (it : Item) (p : Packed) (more : List Bool) : Type 0 where
  pub read : (old new : Place) (u : Unpacked) → old.left ≡ p.packed ++ more → reading.IsUnpacked a other old new u → IsReadThere ctx other it p more new u
  pub never_refused : (e : UnpackFault) → reading.Blames e a other (p.packed ++ more) → e ≡ OutOfMemory

-- Whatever `pack` writes in one context, followed by any bits, `unpack` reads in every context in which its filling fits.
abbrev pub ReadElsewhere : Type 0
ReadElsewhere = (a : Accepting) → IsDeterminate a → (ctx other : Entries) (it : Item) (p : Packed) → writing.IsPacked a ctx it p → reading.Fitting a other p.filling → (more : List Bool) →
    ReadsThere a ctx other it p more

-- It fits there just where each reference that it uses, at any depth, serves there.
abbrev pub FitsByReferences : Type 0
FitsByReferences = (a : Accepting) (ctx other : Entries) (it : Item) (p : Packed) → writing.IsPacked a ctx it p →
    reading.Fitting a other p.filling ↔ AllServe a.profile.methods (bits_at other) a.profile.top [] [] p.filling

-- What is read is what was packed just where that fits there.
abbrev pub RightOrNot : Type 0
RightOrNot = (a : Accepting) → IsDeterminate a → (ctx other : Entries) (it : Item) (p : Packed) → writing.IsPacked a ctx it p → (more : List Bool) (old new : Place) (u : Unpacked) →
    old.left ≡ p.packed ++ more → reading.IsUnpacked a other old new u → (u.filling ≡ p.filling) ↔ reading.Fitting a other p.filling

-- ---- verdicts

-- The verdict is right where what was packed fits.
abbrev pub RightWhereItFits : Type 0
RightWhereItFits = (a : Accepting) → IsDeterminate a → (ctx other : Entries) (it : Item) (p : Packed) → writing.IsPacked a ctx it p → reading.Fitting a other p.filling → (h : Heard) →
    IsHeard a other it p.packed h → kind h ≡ Right

-- There is one verdict.
abbrev pub OneVerdict : Type 0
OneVerdict = (a : Accepting) → IsDeterminate a → (ctx : Entries) (it : Item) (bits : List Bool) (h g : Heard) → IsHeard a ctx it bits h → IsHeard a ctx it bits g → kind h ≡ kind g

-- What was packed fits just where none of its uses is told.
abbrev pub FitsWhereNoneIsTold : Type 0
FitsWhereNoneIsTold = (a : Accepting) (ctx other : Entries) (it : Item) (p : Packed) → writing.IsPacked a ctx it p → (told : List Unserved) →
    HasUnserved a.profile.methods (bits_at other) a.profile.top [] [] p.filling told → reading.Fitting a other p.filling ↔ (told ≡ [])
