-- From the octets of an item to those of its packet.
use Rattle.std.specs.Prelude.{◌≡◌, ◌+◌, ◌/◌, ◌<◌, ℕ, List, length}
use Rattle.sem_context.specs.Entries.{Entries}
use Rattle.sem_filling.specs.declared.filling.Item.{Item}
use Rattle.sem_filling.specs.declared.filling.AskedValue.{AskedValue}
use Rattle.sem_filling.specs.Entries.{next}
use Rattle.sem_profile.specs.declared.asked.AskedField.{AskedField}
use Rattle.cert_accepted.specs.Accepted.{Accepting}
use Rattle.walk_engine.specs.declared.search.Packed.{Packed}
use Rattle.walk_engine.specs.declared.writer.PackFault.{PackFault}
use Rattle.walk_engine.specs.declared.writer.PackFault.TheVariants as pack
use Rattle.walk_engine.specs.Writing as writing
use Rattle.walk_robust.specs.Answers as robust
use Rattle.walk_robust.specs.Sending as sender
use Rattle.walk_robust.specs.declared.sender.RobustFault.{RobustFault}
use Rattle.walk_robust.specs.declared.sender.RobustFault.TheVariants as fault
use Rattle.walk_session.specs.declared.ends.Sending.{Sending}
use Rattle.walk_session.specs.declared.ends.Sending.TheVariants.{Plain, Robust}
use Rattle.walk_session.specs.declared.refusal.PackRefusal.{PackRefusal}
use Rattle.walk_session.specs.declared.refusal.PackRefusal.TheVariants.{OutOfMemory, Flow, BadBits, Asked, HeaderLength, NoFormat, NoReach, Contexts, NoRoom}
use Rattle.walk_session.specs.Asked.{AreValues}
use Rattle.walk_session.specs.Octets.{IsOf, IsOfNone, IsWritten}
use Rattle.walk_session.specs.Most.{IsMostPacket}

-- ---- the item that is given

pub record IsGiven (fields : List AskedField) (header : List ℕ) (count : ℕ) (asked : List ℕ) (it : Item) : Type 0 where
  pub header_is : IsOf header count it.header
  pub asked_are : AreValues fields asked it.asked

-- what a refusal says of what is given
abbrev pub BlamesGiven : PackRefusal → List AskedField → List ℕ → ℕ → List ℕ → Type 0
BlamesGiven OutOfMemory fields header count asked = Unit {0}
BlamesGiven BadBits fields header count asked = IsOfNone header count
BlamesGiven Asked fields header count asked = (values : List AskedValue) → AreValues fields asked values → ⊥
BlamesGiven e fields header count asked = ⊥

-- ---- in one context

-- the packet was written to the room, so many bits, and the context has gone on
pub record IsSentPlain (a : Accepting) (old new : Entries) (it : Item) (room written : List ℕ) (n : ℕ) : Type 0 where
  pub p : Packed
  pub packed : writing.IsPacked a old it p
  pub output : IsWritten p.packed room written
  pub bits_are : n ≡ length p.packed
  pub new_is : new ≡ next old p.filling

-- a packet has so many bits, and the octets that they fill are more than there is room for
pub record IsTooLong (a : Accepting) (ctx : Entries) (it : Item) (room n : ℕ) : Type 0 where
  pub p : Packed
  pub packed : writing.IsPacked a ctx it p
  pub bits_are : n ≡ length p.packed
  pub short : room < (n + 7) / 8

-- what was packed was written to the room, so many bits, and the context has gone on
pub record IsSentAs (old new : Entries) (p : Packed) (room written : List ℕ) (n : ℕ) : Type 0 where
  pub output : IsWritten p.packed room written
  pub bits_are : n ≡ length p.packed
  pub new_is : new ≡ next old p.filling

-- there is no room for what was packed, or memory ran out
abbrev pub BlamesRoom : PackRefusal → Packed → ℕ → Type 0
BlamesRoom (NoRoom n) p room = (n ≡ length p.packed) × (room < (n + 7) / 8)
BlamesRoom OutOfMemory p room = Unit {0}
BlamesRoom e p room = ⊥

-- what is told for a fault of `pack`
abbrev pub refusal_of : PackFault → PackRefusal
refusal_of pack.HeaderLength = HeaderLength
refusal_of (pack.Asked name) = Asked
refusal_of pack.NoFormat = NoFormat
refusal_of pack.Flow = Flow
refusal_of pack.OutOfMemory = OutOfMemory

-- a fault of `pack` for which this is told
pub record IsPackFault (e : PackRefusal) (a : Accepting) (ctx : Entries) (it : Item) : Type 0 where
  pub fault : PackFault
  pub told : e ≡ refusal_of fault
  pub blames : writing.Blames fault a ctx it

abbrev pub BlamesPlain : PackRefusal → Accepting → Entries → Item → ℕ → Type 0
BlamesPlain (NoRoom n) a ctx it room = IsTooLong a ctx it room n
BlamesPlain OutOfMemory a ctx it room = Unit {0}
BlamesPlain e a ctx it room = IsPackFault e a ctx it

-- ---- for all that a receiver may hold

pub record IsSentRobust (a : Accepting) (old new : sender.Sending) (it : Item) (room written : List ℕ) (n : ℕ) : Type 0 where
  pub p : Packed
  pub packed : robust.IsSent a old it p new
  pub output : IsWritten p.packed room written
  pub bits_are : n ≡ length p.packed

-- no packet has more bits than that, and the octets that they fill are more than there is room for
pub record IsTooShort (a : Accepting) (room n : ℕ) : Type 0 where
  pub most : IsMostPacket a n
  pub short : room < (n + 7) / 8

abbrev pub robust_refusal_of : RobustFault → PackRefusal
robust_refusal_of (fault.Pack e) = refusal_of e
robust_refusal_of fault.NoReach = NoReach
robust_refusal_of fault.Contexts = Contexts

-- a fault of the robust sender for which this is told
pub record IsRobustFault (e : PackRefusal) (a : Accepting) (s : sender.Sending) (it : Item) : Type 0 where
  pub fault : RobustFault
  pub told : e ≡ robust_refusal_of fault
  pub blames : robust.Blames fault a s it

abbrev pub BlamesRobust : PackRefusal → Accepting → sender.Sending → Item → ℕ → Type 0
BlamesRobust (NoRoom n) a s it room = IsTooShort a room n
BlamesRobust OutOfMemory a s it room = Unit {0}
BlamesRobust e a s it room = IsRobustFault e a s it

-- ---- by either

abbrev pub IsSent : Accepting → Sending → Sending → Item → List ℕ → List ℕ → ℕ → Type 0
IsSent a (Plain old) (Plain new) it room written n = IsSentPlain a old new it room written n
IsSent a (Robust old) (Robust new) it room written n = IsSentRobust a old new it room written n
IsSent a (Plain old) (Robust new) it room written n = ⊥
IsSent a (Robust old) (Plain new) it room written n = ⊥

abbrev pub BlamesSend : PackRefusal → Accepting → Sending → Item → ℕ → Type 0
BlamesSend e a (Plain ctx) it room = BlamesPlain e a ctx it room
BlamesSend e a (Robust s) it room = BlamesRobust e a s it room
