-- What is put out for sends and resets on 64 flows (docs/DEFINITIONS.md, Frames): each flow has a robust sender of its own.
use Rattle.std.specs.Prelude.{◌≡◌, ℕ, ◌==◌, List, [], ◌∷◌, ◌++◌, map, filter, replicate, slice_get, slice_set, Some}
use Rattle.sem_bits.specs.Octets.{Holds}
use Rattle.sem_context.specs.Entries.{Entries}
use Rattle.sem_filling.specs.declared.filling.Item.{Item}
use Rattle.cert_accepted.specs.Accepted.{Accepting}
use Rattle.walk_engine.specs.declared.search.Packed.{Packed}
use Rattle.walk_line.specs.Lines.{Act, Event}
use Rattle.walk_line.specs.Lines.Act.{Send, Reset}
use Rattle.walk_robust.specs.Sending.{Sending}
use Rattle.walk_robust.specs.Answers.{IsEmptied, IsSent}
use Rattle.walk_frames.specs.Frames.{Frame, packet, reset, flow_limit}

-- the senders of the flows, each at its flow's number
abbrev pub Senders : Type 0
Senders = List Sending

-- a new one, of packets that survive so many lost in a row
abbrev pub fresh : ℕ → Sending
fresh lost = record { own = []; others = []; lost = lost }

abbrev pub new_senders : ℕ → Senders
new_senders lost = replicate flow_limit (fresh lost)

-- What an act of a flow puts out, and what sender it leaves to the flow.
pub data Puts (p : Accepting) (flow : ℕ) : Sending → Act → Frame → Sending → Type 0 where
  -- the packed bits of what the robust sender packs, filled with zero bits to whole octets
  sent : {s new : Sending} {it : Item} (packed : Packed) (body : List ℕ) → IsSent p s it packed new → Holds body packed.packed → Puts p flow s (Send it) (packet flow body) new
  -- the own context is empty then
  emptied : {s new : Sending} → IsEmptied s new → Puts p flow s Reset (reset flow) new

-- what was asked, and the frame that it put out
pub record Sent : Type 0 where
  pub event : Event
  pub frame : Frame

-- With these senders, events put out frames and leave senders.
pub data Sends (p : Accepting) : Senders → List Sent → Senders → Type 0 where
  ended : {s : Senders} → Sends p s [] s
  sends_on : {s t : Senders} {x : Sent} {xs : List Sent} (old new : Sending) → slice_get s x.event.flow ≡ Some old → Puts p x.event.flow old x.event.act x.frame new →
      Sends p (slice_set s x.event.flow new) xs t → Sends p s (x ∷ xs) t

abbrev pub frames_sent : List Sent → List Frame
frames_sent xs = map (λ x. x.frame) xs

abbrev pub events_sent : List Sent → List Event
events_sent xs = map (λ x. x.event) xs

-- what was sent of a flow, in order
abbrev pub sent_of : ℕ → List Sent → List Sent
sent_of flow xs = filter (λ x. x.event.flow == flow) xs

-- their own contexts
abbrev pub owns : Senders → List Entries
owns s = map (λ z. z.own) s
