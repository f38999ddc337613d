-- A line of several flows (docs/DEFINITIONS.md, Lines): what is put out for sends and resets. Each flow has a context of its own.
use Rattle.std.specs.Prelude.{◌≡◌, ℕ, ◌+◌, ◌==◌, List, [], ◌∷◌, length, map, filter, replicate, slice_get, slice_set, Option, Some, None}
use Rattle.std.specs.List.{flat_map}
use Rattle.sem_bits.specs.Octets.{Holds}
use Rattle.sem_context.specs.Entries.{Entries, bits_at}
use Rattle.sem_filling.specs.declared.filling.Filling.{Filling}
use Rattle.sem_filling.specs.declared.filling.Item.{Item}
use Rattle.sem_filling.specs.Fillings.{packed}
use Rattle.sem_filling.specs.Entries.{next}
use Rattle.cert_candidates.specs.Best.{Best}
use Rattle.cert_accepted.specs.Accepted.{Accepting}
use Rattle.walk_line.specs.declared.flow.LineVersion.{LineVersion}
use Rattle.walk_line.specs.declared.flow.LineVersion.TheVariants.{One, Two}

-- how many flows a line of a version has
abbrev pub flows_of : LineVersion → ℕ
flows_of One = 16
flows_of Two = 64

-- the number of a flow is below this, on any line
abbrev pub flow_limit : ℕ
flow_limit = 64

-- the contexts of a line's flows, each at its flow's number; there are as many as the line has flows
abbrev pub Contexts : Type 0
Contexts = List Entries

-- those of a new line
abbrev pub no_entries : LineVersion → Contexts
no_entries version = replicate (flows_of version) []

-- the octet of a reset on a line of so many flows: above those of the flows
abbrev pub reset_octet : ℕ → ℕ → ℕ
reset_octet flows flow = flows + flow

-- what is asked of a flow
pub data Act : Type 0 where
  Send : Item → Act
  Reset : Act

pub record Event : Type 0 where
  pub flow : ℕ
  pub act : Act

-- what one event puts on the line, with the filling that is in it
pub record Packet : Type 0 where
  pub flow : ℕ
  pub octets : List ℕ
  pub filling : Option Filling

-- the filling is the best for the item in the context
abbrev pub IsBest : Accepting → Entries → Item → Filling → Type 0
IsBest p ctx it f = Best p.profile.methods p.certificate.methods p.profile.top (bits_at ctx) it f

-- What an act of a flow puts on a line of so many flows, and what it leaves in the flow's context.
pub data Puts (p : Accepting) (flows flow : ℕ) : Entries → Act → Packet → Entries → Type 0 where
  -- the flow's octet, and then the packed bits of the best filling, filled with zero bits to whole octets
  sent : {ctx : Entries} {it : Item} (f : Filling) (octets : List ℕ) → IsBest p ctx it f → Holds octets (packed f) →
      Puts p flows flow ctx (Send it) (record { flow = flow; octets = flow ∷ octets; filling = Some f }) (next ctx f)
  -- one octet; the context is empty then
  emptied : {ctx : Entries} → Puts p flows flow ctx Reset (record { flow = flow; octets = reset_octet flows flow ∷ []; filling = None }) []

-- From these contexts, events put out packets and leave contexts.
pub data Line (p : Accepting) : Contexts → List Event → List Packet → Contexts → Type 0 where
  ended : {s : Contexts} → Line p s [] [] s
  puts_on : {s t : Contexts} {e : Event} {es : List Event} {out : Packet} {outs : List Packet} (old new : Entries) →
      slice_get s e.flow ≡ Some old → Puts p (length s) e.flow old e.act out new → Line p (slice_set s e.flow new) es outs t →
      Line p s (e ∷ es) (out ∷ outs) t

-- the octets that packets are on the line
abbrev pub octets_of : List Packet → List ℕ
octets_of outs = flat_map (λ out. out.octets) outs

-- ---- one flow

-- The same of one flow that is alone: its acts, from its context.
pub data Alone (p : Accepting) (flows flow : ℕ) : Entries → List Act → List Packet → Entries → Type 0 where
  stopped : {ctx : Entries} → Alone p flows flow ctx [] [] ctx
  acts_on : {ctx end : Entries} {act : Act} {acts : List Act} {out : Packet} {outs : List Packet} (new : Entries) →
      Puts p flows flow ctx act out new → Alone p flows flow new acts outs end →
      Alone p flows flow ctx (act ∷ acts) (out ∷ outs) end

-- what is asked of a flow, in order
abbrev pub acts_of : ℕ → List Event → List Act
acts_of flow es = map (λ e. e.act) (filter (λ e. e.flow == flow) es)

-- the packets of a flow, in order
abbrev pub packets_of : ℕ → List Packet → List Packet
packets_of flow outs = filter (λ out. out.flow == flow) outs
