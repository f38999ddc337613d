-- Laws of lines.
use Rattle.std.specs.Prelude.{◌≡◌, ℕ, List, [], ◌∷◌, ◌++◌, length, slice_get, Some}
use Rattle.sem_context.specs.Entries.{Entries}
use Rattle.sem_filling.specs.Fronts.{Det}
use Rattle.cert_accepted.specs.Accepted.{Accepting}
use Rattle.walk_line.specs.Lines.{Contexts, Act, Event, Packet, Line, Alone, octets_of, acts_of, packets_of}
use Rattle.walk_line.specs.Lines.Act.{Send, Reset}
use Rattle.walk_line.specs.Hearing.{Found, Heard, BlamesOctet}
use Rattle.walk_line.specs.declared.fault.LineFault.{LineFault}
use Rattle.walk_line.specs.declared.fault.LineFault.TheVariants.{OutOfMemory}

-- the items that are sent, with their flows
abbrev pub item_sent : ℕ → Act → Found
item_sent flow (Send it) = (flow, it) ∷ []
item_sent flow Reset = []

abbrev pub items_sent : List Event → Found
items_sent [] = []
items_sent (e ∷ es) = item_sent e.flow e.act ++ items_sent es

-- Two lines, of which the second begins where the first ends, are one.
abbrev pub LinesJoin : Type 0
LinesJoin = (p : Accepting) (s t u : Contexts) (es fs : List Event) (outs more : List Packet) → Line p s es outs t → Line p t fs more u → Line p s (es ++ fs) (outs ++ more) u

-- What is heard, and then of its rest and more octets, is heard of them all.
abbrev pub HeardJoin : Type 0
HeardJoin = (p : Accepting) (s t u : Contexts) (all more rest last : List ℕ) (found later : Found) →
    Heard p s all found rest t → Heard p t (rest ++ more) later last u → Heard p s (all ++ more) (found ++ later) last u

pub record IsSame (found others : Found) (rest left : List ℕ) (t u : Contexts) : Type 0 where
  pub items : found ≡ others
  pub rests : rest ≡ left
  pub contexts : t ≡ u

-- Of octets one thing alone is heard.
abbrev pub HeardOnce : Type 0
HeardOnce = (p : Accepting) → Det p.profile.methods p.profile.top → (s t u : Contexts) (all rest left : List ℕ) (found others : Found) →
    Heard p s all found rest t → Heard p s all others left u → IsSame found others rest left t u

-- The octets of a line are heard as the items that were sent, with nothing left, and with the sender's contexts.
abbrev pub LineIsHeard : Type 0
LineIsHeard = (p : Accepting) (s t : Contexts) (es : List Event) (outs : List Packet) → Line p s es outs t → Heard p s (octets_of outs) (items_sent es) [] t

-- No fault but out of memory comes in octets that are heard with nothing left.
abbrev pub NoFault : Type 0
NoFault = (p : Accepting) → Det p.profile.methods p.profile.top → (s t u : Contexts) (all before rest after : List ℕ) (octet : ℕ) (found others : Found) (e : LineFault) →
    Heard p s all found [] t → all ≡ before ++ octet ∷ after → Heard p s before others rest u → BlamesOctet e p u rest octet → e ≡ OutOfMemory

-- the flow's context, acts and packets are a line of their own
pub record IsAlone (p : Accepting) (s t : Contexts) (es : List Event) (outs : List Packet) (flow : ℕ) (ctx : Entries) : Type 0 where
  pub end : Entries
  pub end_is : slice_get t flow ≡ Some end
  pub alone : Alone p (length s) flow ctx (acts_of flow es) (packets_of flow outs) end

-- Packets, fillings and contexts of a flow are those of its own events alone.
abbrev pub OneFlow : Type 0
OneFlow = (p : Accepting) (s t : Contexts) (es : List Event) (outs : List Packet) (flow : ℕ) (ctx : Entries) →
    Line p s es outs t → slice_get s flow ≡ Some ctx → IsAlone p s t es outs flow ctx

-- What a flow is asked for determines its packets and its context.
abbrev pub AloneOnce : Type 0
AloneOnce = (p : Accepting) (flows flow : ℕ) (ctx end other : Entries) (acts : List Act) (outs others : List Packet) →
    Alone p flows flow ctx acts outs end → Alone p flows flow ctx acts others other → (outs ≡ others) × (end ≡ other)

-- Two lists of events that agree on a flow give it the same packets, and the same context.
abbrev pub SamePackets : Type 0
SamePackets = (p : Accepting) (s t s' t' : Contexts) (es fs : List Event) (outs others : List Packet) (flow : ℕ) (ctx : Entries) →
    length s ≡ length s' → slice_get s flow ≡ Some ctx → slice_get s' flow ≡ Some ctx → Line p s es outs t → Line p s' fs others t' → acts_of flow es ≡ acts_of flow fs →
    (packets_of flow outs ≡ packets_of flow others) × (slice_get t flow ≡ slice_get t' flow)
