-- From the octets of a packet to those of its item.
use Rattle.std.specs.Prelude.{◌≡◌, ◌+◌, ◌/◌, ◌<◌, ◌⊎◌, ℕ, Bool, List, [], length}
use Rattle.sem_bits.specs.Cursor.{Place}
use Rattle.sem_context.specs.Entries.{Entries}
use Rattle.sem_filling.specs.Fillings.{item}
use Rattle.sem_filling.specs.Entries.{next}
use Rattle.cert_accepted.specs.Accepted.{Accepting}
use Rattle.walk_engine.specs.declared.reader.Unpacked.{Unpacked}
use Rattle.walk_engine.specs.declared.reader.UnpackFault.{UnpackFault}
use Rattle.walk_engine.specs.declared.reader.UnpackFault.TheVariants as reader
use Rattle.walk_engine.specs.Reading as reading
use Rattle.walk_session.specs.declared.unpacker.Taken.{Taken}
use Rattle.walk_session.specs.declared.refusal.UnpackRefusal.{UnpackRefusal}
use Rattle.walk_session.specs.declared.refusal.UnpackRefusal.TheVariants.{OutOfMemory, Flow, BadBits, Truncated, Refused, NoRoom}
use Rattle.walk_session.specs.Asked.{Spells}
use Rattle.walk_session.specs.Octets.{IsOf, IsOfNone, IsPut, IsWritten}

-- The octets are bits that begin with a packet. These are its filling's counts: the bits of its header, the octets of its asked values, and its own bits.
pub record IsRead (a : Accepting) (ctx : Entries) (packed : List ℕ) (count : ℕ) (t : Taken) : Type 0 where
  pub bits : List Bool
  pub bits_are : IsOf packed count bits
  pub u : Unpacked
  pub rest : Place
  pub unpacked : reading.IsUnpacked a ctx (record { used = []; left = bits }) rest u
  pub values : List ℕ
  pub values_are : Spells (item u.filling).asked values
  pub header_bits_are : t.header_bits ≡ length u.header
  pub asked_octets_are : t.asked_octets ≡ length values
  pub bits_taken : t.bits ≡ u.bits

-- its header and its asked values were written to the rooms, and the context has gone on
pub record IsReceived (a : Accepting) (old new : Entries) (packed : List ℕ) (count : ℕ) (header header_written asked asked_written : List ℕ) (t : Taken) : Type 0 where
  pub read : IsRead a old packed count t
  pub header_put : IsWritten read.u.header header header_written
  pub asked_put : IsPut read.values asked asked_written
  pub new_is : new ≡ next old read.u.filling

-- one of the rooms is too short for it
pub record IsTooLong (a : Accepting) (ctx : Entries) (packed : List ℕ) (count header asked : ℕ) (t : Taken) : Type 0 where
  pub read : IsRead a ctx packed count t
  pub short : (header < (t.header_bits + 7) / 8) ⊎ (asked < t.asked_octets)

-- what is told for a fault of `unpack`
abbrev pub refusal_of : UnpackFault → UnpackRefusal
refusal_of reader.Truncated = Truncated
refusal_of (reader.Refused at) = Refused at
refusal_of reader.OutOfMemory = OutOfMemory

-- a fault of `unpack` for which this is told
pub record IsUnpackFault (e : UnpackRefusal) (a : Accepting) (ctx : Entries) (packed : List ℕ) (count : ℕ) : Type 0 where
  pub bits : List Bool
  pub bits_are : IsOf packed count bits
  pub fault : UnpackFault
  pub told : e ≡ refusal_of fault
  pub blames : reading.Blames fault a ctx bits

abbrev pub BlamesReceive : UnpackRefusal → Accepting → Entries → List ℕ → ℕ → ℕ → ℕ → Type 0
BlamesReceive OutOfMemory a ctx packed count header asked = Unit {0}
BlamesReceive Flow a ctx packed count header asked = ⊥
BlamesReceive BadBits a ctx packed count header asked = IsOfNone packed count
BlamesReceive (NoRoom t) a ctx packed count header asked = IsTooLong a ctx packed count header asked t
BlamesReceive e a ctx packed count header asked = IsUnpackFault e a ctx packed count
