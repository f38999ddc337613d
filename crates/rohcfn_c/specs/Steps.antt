-- The steps of an open session, and what is told of each.
use Rattle.std.specs.Prelude.{◌≡◌, ◌≤◌, ◌<◌, ◌^◌, ℕ, pos, List, length, Option, Some, None, Result, Ok, Err, slice_get}
use Rattle.std.specs.declared.alloc.AllocError.{AllocError}
use Rattle.sem_profile.specs.declared.asked.AskedField.{AskedField}
use Rattle.walk_session.specs.declared.ends.Ends.{Ends}
use Rattle.walk_session.specs.declared.unpacker.Taken.{Taken}
use Rattle.walk_session.specs.declared.refusal.PackRefusal.{PackRefusal}
use Rattle.walk_session.specs.declared.refusal.PackRefusal.TheVariants as pack
use Rattle.walk_session.specs.declared.refusal.UnpackRefusal.{UnpackRefusal}
use Rattle.walk_session.specs.declared.refusal.UnpackRefusal.TheVariants as unpack
use Rattle.walk_session.specs.Most.{IsMostHeader, IsMostPacket}
use Rattle.walk_session.specs.Steps.{IsPacked, IsNotPacked, IsUnpacked, IsNotUnpacked, IsReset, IsRobust, held_by}
use Rattle.rohcfn_c.specs.declared.opened.Opened.{Opened}
use Rattle.rohcfn_c.specs.declared.opened.Last.TheVariants.{Pack, Unpack}
use Rattle.rohcfn_c.specs.declared.steps.Counts.{Counts}
use Rattle.rohcfn_c.specs.declared.answer.CallAnswer.{CallAnswer}
use Rattle.rohcfn_c.specs.declared.answer.CallAnswer.TheVariants.{Done, NoMemory, Closed, NoRoom, Refused, BadBits, HeaderLength, Asked, NoFormat, Truncated, RefusedPacket, NoSuch, NoReach, Contexts}
use Rattle.rohcfn_c.specs.CallAnswer.{told_of_pack, told_of_unpack}
use Rattle.rohcfn_c.specs.Lines.{IsCut, why_text}

-- ---- packing

-- the bits of a packet for which there is no room, or else what was told before
abbrev pub bits_of : PackRefusal → ℕ → ℕ
bits_of pack.OutOfMemory before = before
bits_of pack.Flow before = before
bits_of pack.BadBits before = before
bits_of pack.Asked before = before
bits_of pack.HeaderLength before = before
bits_of pack.NoFormat before = before
bits_of pack.NoReach before = before
bits_of pack.Contexts before = before
bits_of (pack.NoRoom n) before = n

-- What pack answers: done, and the packet was written and the session has gone on; or why not, and then the session and the room are as they were.
pub data PackTold (o new : Opened) (flow : ℕ) (header : List ℕ) (count : ℕ) (asked room written : List ℕ) (before n : ℕ) : CallAnswer → Type 0 where
  packed : IsPacked o.session new.session flow header count asked room written n → new.last ≡ o.last → PackTold o new flow header count asked room written before n Done
  not_packed : (e : PackRefusal) → IsNotPacked o.session flow header count asked (length room) e → new ≡ record { session = o.session; last = Pack e } → written ≡ room → n ≡ bits_of e before →
      PackTold o new flow header count asked room written before n (told_of_pack e)

-- ---- unpacking

abbrev pub counts_of : Taken → Counts
counts_of t = record { header_bits = t.header_bits; asked_octets = t.asked_octets; taken_bits = t.bits }

abbrev pub counts_told : UnpackRefusal → Counts → Counts
counts_told unpack.OutOfMemory before = before
counts_told unpack.Flow before = before
counts_told unpack.BadBits before = before
counts_told unpack.Truncated before = before
counts_told (unpack.Refused at) before = before
counts_told (unpack.NoRoom t) before = counts_of t

-- What unpack answers: done, and the item was written and the session has gone on; or why not, and then the session and the rooms are as they were.
pub data UnpackTold (o new : Opened) (flow : ℕ) (packed : List ℕ) (count : ℕ) (header header_written asked asked_written : List ℕ) (before n : Counts) : CallAnswer → Type 0 where
  unpacked : (t : Taken) → IsUnpacked o.session new.session flow packed count header header_written asked asked_written t → n ≡ counts_of t → new.last ≡ o.last →
      UnpackTold o new flow packed count header header_written asked asked_written before n Done
  not_unpacked : (e : UnpackRefusal) → IsNotUnpacked o.session flow packed count (length header) (length asked) e → new ≡ record { session = o.session; last = Unpack e } →
      header_written ≡ header → asked_written ≡ asked → n ≡ counts_told e before → UnpackTold o new flow packed count header header_written asked asked_written before n (told_of_unpack e)

-- ---- the others

-- there is no such flow
abbrev pub HasNoFlow : Opened → ℕ → Type 0
HasNoFlow o flow = length o.session.flows ≤ flow

abbrev pub ResetTold : Opened → Opened → ℕ → CallAnswer → Type 0
ResetTold o new flow Done = IsReset o.session new.session flow × (new.last ≡ o.last)
ResetTold o new flow NoSuch = HasNoFlow o flow × (new ≡ o)
ResetTold o new flow told = ⊥

abbrev pub RobustTold : Opened → Opened → ℕ → ℕ → CallAnswer → Type 0
RobustTold o new flow lost Done = IsRobust o.session new.session flow lost × (new.last ≡ o.last)
RobustTold o new flow lost NoSuch = HasNoFlow o flow × (new ≡ o)
RobustTold o new flow lost NoMemory = new ≡ o
RobustTold o new flow lost told = ⊥

-- a receiver of the flow may hold so many
pub record HasHeld (o : Opened) (flow n : ℕ) : Type 0 where
  pub ends : Ends
  pub at : slice_get o.session.flows flow ≡ Some ends
  pub count_is : n ≡ held_by ends.sending

abbrev pub ContextsTold : Opened → ℕ → ℕ → ℕ → CallAnswer → Type 0
ContextsTold o flow before n Done = HasHeld o flow n
ContextsTold o flow before n NoSuch = HasNoFlow o flow × (n ≡ before)
ContextsTold o flow before n told = ⊥

-- no header that fits has more bits, and no packet
abbrev pub AreMost : Opened → ℕ → ℕ → Type 0
AreMost o header packet = IsMostHeader o.session.accepted header × IsMostPacket o.session.accepted packet

-- the values of the field have so many bits
abbrev pub IsLengthOf : AskedField → ℕ → Type 0
IsLengthOf f n = (m : ℕ) → m < 2 ^ 31 → f.length ≡ pos m → n ≡ m

-- the name of the asked field at the place, and how many bits its values have
pub record IsAskedAt (o : Opened) (index : ℕ) (name name_new : List ℕ) (said bits : ℕ) : Type 0 where
  pub field : AskedField
  pub at : slice_get o.session.accepted.profile.asked index ≡ Some field
  pub name_is : IsCut field.name name name_new said
  pub bits_are : IsLengthOf field bits

pub record HasNoAsked (o : Opened) (index : ℕ) (name name_new : List ℕ) (said said_new bits bits_new : ℕ) : Type 0 where
  pub beyond : length o.session.accepted.profile.asked ≤ index
  pub name_stays : name_new ≡ name
  pub said_stays : said_new ≡ said
  pub bits_stay : bits_new ≡ bits

abbrev pub AskedTold : Opened → ℕ → List ℕ → List ℕ → ℕ → ℕ → ℕ → ℕ → CallAnswer → Type 0
AskedTold o index name name_new said said_new bits bits_new Done = IsAskedAt o index name name_new said_new bits_new
AskedTold o index name name_new said said_new bits bits_new NoSuch = HasNoAsked o index name name_new said said_new bits bits_new
AskedTold o index name name_new said said_new bits bits_new told = ⊥

abbrev pub SaysWhy : Opened → List ℕ → List ℕ → ℕ → ℕ → Result (Unit {0}) AllocError → Type 0
SaysWhy o line line_new said said_new (Ok u) = IsCut (why_text o.session.accepted.profile.methods o.last) line line_new said_new
SaysWhy o line line_new said said_new (Err e) = (line_new ≡ line) × (said_new ≡ said)
