-- The steps of a session.
use Rattle.std.specs.Prelude.{◌≡◌, ◌<◌, ◌≤◌, ℕ, List, [], length, slice_get, slice_set, Some}
use Rattle.sem_context.specs.Entries.{Entries}
use Rattle.sem_filling.specs.declared.filling.Item.{Item}
use Rattle.walk_robust.specs.Sending as sender
use Rattle.walk_session.specs.declared.ends.Ends.{Ends}
use Rattle.walk_session.specs.declared.ends.Sending.{Sending}
use Rattle.walk_session.specs.declared.ends.Sending.TheVariants.{Plain, Robust}
use Rattle.walk_session.specs.declared.unpacker.Taken.{Taken}
use Rattle.walk_session.specs.declared.refusal.PackRefusal.{PackRefusal}
use Rattle.walk_session.specs.declared.refusal.PackRefusal.TheVariants as pack
use Rattle.walk_session.specs.declared.refusal.UnpackRefusal.{UnpackRefusal}
use Rattle.walk_session.specs.declared.refusal.UnpackRefusal.TheVariants as unpack
use Rattle.walk_session.specs.State.{State, empty_ends}
use Rattle.walk_session.specs.Packer.{IsGiven, BlamesGiven, IsSent, BlamesSend}
use Rattle.walk_session.specs.Unpacker.{IsReceived, BlamesReceive}

-- the session with these ends of a flow
abbrev pub with_ends : State → ℕ → Ends → State
with_ends s flow ends = record { accepted = s.accepted; flows = slice_set s.flows flow ends }

-- ---- packing

-- The item was packed at the sending end of the flow, and the packet, of so many bits, was written to the room. Nothing else changed.
pub record IsPacked (s new : State) (flow : ℕ) (header : List ℕ) (count : ℕ) (asked room written : List ℕ) (n : ℕ) : Type 0 where
  pub ends : Ends
  pub at : slice_get s.flows flow ≡ Some ends
  pub it : Item
  pub given : IsGiven s.accepted.profile.asked header count asked it
  pub sending : Sending
  pub sent : IsSent s.accepted ends.sending sending it room written n
  pub new_is : new ≡ with_ends s flow (record { sending = sending; receiving = ends.receiving })

-- why no packet was written
pub data IsNotPacked (s : State) (flow : ℕ) (header : List ℕ) (count : ℕ) (asked : List ℕ) (room : ℕ) : PackRefusal → Type 0 where
  pack_no_flow : length s.flows ≤ flow → IsNotPacked s flow header count asked room pack.Flow
  not_given : {e : PackRefusal} → BlamesGiven e s.accepted.profile.asked header count asked → IsNotPacked s flow header count asked room e
  not_sent : {e : PackRefusal} (ends : Ends) (it : Item) → slice_get s.flows flow ≡ Some ends → IsGiven s.accepted.profile.asked header count asked it →
      BlamesSend e s.accepted ends.sending it room → IsNotPacked s flow header count asked room e

-- ---- unpacking

-- The packet was read at the receiving end of the flow, and its header and asked values were written to the rooms. Nothing else changed.
pub record IsUnpacked (s new : State) (flow : ℕ) (packed : List ℕ) (count : ℕ) (header header_written asked asked_written : List ℕ) (t : Taken) : Type 0 where
  pub ends : Ends
  pub at : slice_get s.flows flow ≡ Some ends
  pub receiving : Entries
  pub received : IsReceived s.accepted ends.receiving receiving packed count header header_written asked asked_written t
  pub new_is : new ≡ with_ends s flow (record { sending = ends.sending; receiving = receiving })

-- why no item was written
pub data IsNotUnpacked (s : State) (flow : ℕ) (packed : List ℕ) (count header asked : ℕ) : UnpackRefusal → Type 0 where
  unpack_no_flow : length s.flows ≤ flow → IsNotUnpacked s flow packed count header asked unpack.Flow
  not_received : {e : UnpackRefusal} (ends : Ends) → slice_get s.flows flow ≡ Some ends → BlamesReceive e s.accepted ends.receiving packed count header asked →
      IsNotUnpacked s flow packed count header asked e

-- ---- beginning anew

-- the context that a receiver holds which lost nothing
abbrev pub own_of : Sending → Entries
own_of (Plain ctx) = ctx
own_of (Robust s) = s.own

-- both ends of the flow begin anew
pub record IsReset (s new : State) (flow : ℕ) : Type 0 where
  pub within : flow < length s.flows
  pub new_is : new ≡ with_ends s flow empty_ends

-- from here on so many packets of the flow may be lost in a row
pub record IsRobust (s new : State) (flow lost : ℕ) : Type 0 where
  pub ends : Ends
  pub at : slice_get s.flows flow ≡ Some ends
  pub new_is : new ≡ with_ends s flow (record { sending = Robust (record { own = own_of ends.sending; others = []; lost = lost }); receiving = ends.receiving })

-- how many pairs of a context and of packets lost right before a receiver may hold
abbrev pub held_by : Sending → ℕ
held_by (Plain ctx) = 1
held_by (Robust s) = length (sender.held s)
