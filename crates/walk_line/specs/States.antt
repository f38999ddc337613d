-- What senders and receivers keep, and what a call does to it.
use Rattle.std.specs.Prelude.{◌≡◌, ℕ, List, [], ◌∷◌, ◌++◌, ◌<◌, ◌≤◌, length, take, slice_get, Option, Some, None}
use Rattle.sem_context.specs.Entries.{Entries}
use Rattle.cert_accepted.specs.Accepted.{Accepting}
use Rattle.walk_engine.specs.declared.writer.PackFault.{PackFault}
use Rattle.walk_engine.specs.declared.writer.PackFault.TheVariants as pack
use Rattle.walk_engine.specs.Writing as writing
use Rattle.walk_line.specs.Lines.{Contexts, Act, Event, Packet, Line}
use Rattle.walk_line.specs.Lines.Act.{Send, Reset}
use Rattle.walk_line.specs.Hearing.{Found, Heard, BlamesOctet}
use Rattle.walk_line.specs.declared.fault.LineFault.{LineFault}
use Rattle.walk_line.specs.declared.fault.LineFault.TheVariants.{Ended}

pub record Sending : Type 0 where
  pub accepted : Accepting
  pub contexts : Contexts

pub record Receiving : Type 0 where
  pub accepted : Accepting
  pub contexts : Contexts
  -- the octets of a packet that is not whole yet
  pub rest : List ℕ
  -- the fault that came, if one did
  pub fault : Option LineFault

-- An event was put on the line: from the contexts of before to those of after, with these octets.
pub record IsPut (old new : Sending) (e : Event) (octets : List ℕ) : Type 0 where
  pub accepted_is : new.accepted ≡ old.accepted
  pub packet : Packet
  pub line : Line old.accepted old.contexts (e ∷ []) (packet ∷ []) new.contexts
  pub octets_are : octets ≡ packet.octets

-- what a fault says of an act in a flow's context: of a send what `pack` says, of a reset that memory ran out
abbrev pub BlamesAct : PackFault → Accepting → Entries → Act → Type 0
BlamesAct fault p ctx (Send it) = writing.Blames fault p ctx it
BlamesAct fault p ctx Reset = fault ≡ pack.OutOfMemory

-- An event was not put on the line: the line has no such flow; or it has, and the fault is one of the act in the flow's context.
pub data IsNotPut (old : Sending) (e : Event) : PackFault → Type 0 where
  no_flow : length old.contexts ≤ e.flow → IsNotPut old e pack.Flow
  blamed : {fault : PackFault} (ctx : Entries) → slice_get old.contexts e.flow ≡ Some ctx → BlamesAct fault old.accepted ctx e.act → IsNotPut old e fault

-- The piece was heard after the rest, and gave these items.
pub record Hears (old new : Receiving) (piece : List ℕ) (found : Found) : Type 0 where
  pub accepted_is : new.accepted ≡ old.accepted
  pub well_before : old.fault ≡ None
  pub well : new.fault ≡ None
  pub heard : Heard old.accepted old.contexts (old.rest ++ piece) found new.rest new.contexts

-- So many of the octets were heard after the rest, and gave these items.
pub record HearsFirst (old new : Receiving) (octets : List ℕ) (n : ℕ) (found : Found) : Type 0 where
  pub some : 0 < n
  pub within : n ≤ length octets
  pub hears : Hears old new (take n octets) found

-- The piece was heard up to an octet, and gave these items; the fault came at that octet.
pub record Stops (old : Receiving) (piece : List ℕ) (found : Found) (e : LineFault) : Type 0 where
  pub before : List ℕ
  pub octet : ℕ
  pub after : List ℕ
  pub rest : List ℕ
  pub contexts : Contexts
  pub piece_is : piece ≡ before ++ octet ∷ after
  pub heard : Heard old.accepted old.contexts (old.rest ++ before) found rest contexts
  pub blames : BlamesOctet e old.accepted contexts rest octet

-- A fault that came before is answered again, and gives nothing; else it comes in the piece.
abbrev pub FailsIn : Option LineFault → Receiving → List ℕ → Found → LineFault → Type 0
FailsIn (Some before) old piece found e = (e ≡ before) × (found ≡ [])
FailsIn None old piece found e = Stops old piece found e

-- The receiver keeps the fault, and answers it from then on.
pub record Fails (old new : Receiving) (piece : List ℕ) (found : Found) (e : LineFault) : Type 0 where
  pub accepted_is : new.accepted ≡ old.accepted
  pub kept : new.fault ≡ Some e
  pub comes : FailsIn old.fault old piece found e

-- The fault came at the octet after the rest, and the receiver keeps it.
pub record FailsAt (old new : Receiving) (octet : ℕ) (e : LineFault) : Type 0 where
  pub accepted_is : new.accepted ≡ old.accepted
  pub kept : new.fault ≡ Some e
  pub blames : BlamesOctet e old.accepted old.contexts old.rest octet

-- The end of the octets: a fault that came, or else that they end inside a packet, where something is left.
abbrev pub end_of : Option LineFault → List ℕ → Option LineFault
end_of (Some e) rest = Some e
end_of None [] = None
end_of None (x ∷ rest) = Some Ended
