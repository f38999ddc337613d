-- What one session packs another unpacks, also where packets between them were lost.
use Rattle.std.specs.Prelude.{◌≡◌, ◌<◌, ℕ, suc, Bool, List, [], ◌++◌, length}
use Rattle.sem_context.specs.Entries.{Entries}
use Rattle.sem_filling.specs.declared.filling.Item.{Item}
use Rattle.sem_filling.specs.Fillings.{item}
use Rattle.cert_accepted.specs.Accepted.{IsDeterminate}
use Rattle.walk_engine.specs.Laws.{AreSame}
use Rattle.sem_elsewhere.specs.Held.{IsHeld}
use Rattle.walk_robust.specs.Sending as sender
use Rattle.walk_session.specs.declared.ends.Sending.{Sending}
use Rattle.walk_session.specs.declared.ends.Sending.TheVariants.{Plain, Robust}
use Rattle.walk_session.specs.declared.unpacker.Taken.{Taken}
use Rattle.walk_session.specs.Octets.{IsWritten}
use Rattle.walk_session.specs.State.{State}
use Rattle.walk_session.specs.Steps.{IsPacked, IsUnpacked, IsRobust, own_of}

-- what was unpacked is what was packed, and just its bits were taken; the contexts go on as the same maps
pub record IsReadBack (it found : Item) (n taken : ℕ) (ctx other : Entries) : Type 0 where
  pub item_is : found ≡ it
  pub taken_are : taken ≡ n
  pub next_are : AreSame ctx other

-- What one session packed in a context, and another, by the same profile, unpacks in the same context of bits that begin with it: it is the same item, and just its bits are taken.
abbrev pub ReadBack : Type 0
ReadBack = (s new t next : State) (flow other : ℕ) (header : List ℕ) (count : ℕ) (asked room written : List ℕ) (n : ℕ) (octets : List ℕ) (m : ℕ) (h hw a aw : List ℕ) (k : Taken) →
    IsDeterminate s.accepted → t.accepted ≡ s.accepted → (sent : IsPacked s new flow header count asked room written n) → (heard : IsUnpacked t next other octets m h hw a aw k) →
    (ctx : Entries) → sent.ends.sending ≡ Plain ctx → AreSame ctx heard.ends.receiving →
    (packed more : List Bool) → length packed ≡ n → IsWritten packed room written → heard.received.read.bits ≡ packed ++ more →
    IsReadBack sent.it (item heard.received.read.u.filling) n k.bits (own_of sent.sending) heard.receiving

-- ---- where packets may be lost

-- A flow goes on for losses from a receiver in the same context: that is held, with no packet lost right before.
abbrev pub BeginsHeld : Type 0
BeginsHeld = (s new : State) (flow lost : ℕ) → (begun : IsRobust s new flow lost) → (ctx : Entries) → AreSame (own_of begun.ends.sending) ctx →
    IsHeld (sender.held (record { own = own_of begun.ends.sending; others = []; lost = lost })) 0 ctx

-- It is the same item, and just its bits are taken; and the sender holds the receiver's context again, with no packet lost right before.
pub record IsReadHeld (it found : Item) (n taken : ℕ) (sending : Sending) (ctx : Entries) : Type 0 where
  pub item_is : found ≡ it
  pub taken_are : taken ≡ n
  pub robust : sender.Sending
  pub robust_is : sending ≡ Robust robust
  pub is_held : IsHeld (sender.held robust) 0 ctx

-- What one session packed for losses, and another, by the same profile, unpacks of bits that begin with it, in any context that is held, however many packets were lost right before.
abbrev pub ReadBackHeld : Type 0
ReadBackHeld = (s new t next : State) (flow other : ℕ) (header : List ℕ) (count : ℕ) (asked room written : List ℕ) (n : ℕ) (octets : List ℕ) (m : ℕ) (h hw a aw : List ℕ) (k : Taken) →
    IsDeterminate s.accepted → t.accepted ≡ s.accepted → (sent : IsPacked s new flow header count asked room written n) → (heard : IsUnpacked t next other octets m h hw a aw k) →
    (robust : sender.Sending) → sent.ends.sending ≡ Robust robust → (gap : ℕ) → IsHeld (sender.held robust) gap heard.ends.receiving →
    (packed more : List Bool) → length packed ≡ n → IsWritten packed room written → heard.received.read.bits ≡ packed ++ more →
    IsReadHeld sent.it (item heard.received.read.u.filling) n k.bits sent.sending heard.receiving

-- the sender holds the context with one lost packet more, and as many may be lost
pub record IsHeldOn (robust : sender.Sending) (gap : ℕ) (sending : Sending) (ctx : Entries) : Type 0 where
  pub after : sender.Sending
  pub after_is : sending ≡ Robust after
  pub lost_is : after.lost ≡ robust.lost
  pub is_held : IsHeld (sender.held after) (suc gap) ctx

-- Where the packet is lost, and one more may be, the context stays held.
abbrev pub LostHeld : Type 0
LostHeld = (s new : State) (flow : ℕ) (header : List ℕ) (count : ℕ) (asked room written : List ℕ) (n : ℕ) → (sent : IsPacked s new flow header count asked room written n) →
    (robust : sender.Sending) → sent.ends.sending ≡ Robust robust → (gap : ℕ) (ctx : Entries) → IsHeld (sender.held robust) gap ctx → gap < robust.lost → IsHeldOn robust gap sent.sending ctx
