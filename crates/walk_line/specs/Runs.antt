-- Whole runs of a line: a list of events, and all octets of one.
use Rattle.std.specs.Prelude.{◌≡◌, ℕ, List, ◌∷◌, ◌++◌, take, slice_get, Option, Some, None}
use Rattle.cert_accepted.specs.Accepted.{Accepting}
use Rattle.walk_engine.specs.declared.writer.PackFault.{PackFault}
use Rattle.walk_engine.specs.declared.writer.PackFault.TheVariants as pack
use Rattle.walk_line.specs.Lines.{Contexts, Packet, Line, octets_of, no_entries}
use Rattle.walk_line.specs.Lines as lines
use Rattle.walk_line.specs.Lines.Act.{Send, Reset}
use Rattle.walk_line.specs.Hearing.{Found, Heard, BlamesOctet}
use Rattle.walk_line.specs.Laws.{items_sent}
use Rattle.walk_line.specs.States.{Sending, IsNotPut, end_of}
use Rattle.walk_line.specs.declared.fault.LineFault.{LineFault}
use Rattle.walk_line.specs.declared.flow.LineVersion.{LineVersion}
use Rattle.walk_line.specs.declared.fault.LineFault.TheVariants.{Ended}
use Rattle.walk_line.specs.declared.fault.LineFault.TheVariants as line
use Rattle.walk_line.specs.declared.runs.Event.{Event}
use Rattle.walk_line.specs.declared.runs.Event.TheVariants as event
use Rattle.walk_line.specs.declared.runs.RunFault.{RunFault}
use Rattle.walk_line.specs.declared.runs.RunFault.TheVariants.{Refused, OutOfMemory}

abbrev pub event_of : Event → lines.Event
event_of (event.Send flow it) = record { flow = flow; act = Send it }
event_of (event.Reset flow) = record { flow = flow; act = Reset }

-- the events were put on the line, one after the other
pub record ArePut (old new : Sending) (es : List lines.Event) (before after : List ℕ) : Type 0 where
  pub accepted_is : new.accepted ≡ old.accepted
  pub packets : List Packet
  pub line : Line old.accepted old.contexts es packets new.contexts
  pub after_is : after ≡ before ++ octets_of packets

-- The events before this one were put on the line, and it is refused.
pub record IsStopped (p : Accepting) (s : Contexts) (es : List lines.Event) (n : ℕ) (fault : PackFault) : Type 0 where
  pub packets : List Packet
  pub contexts : Contexts
  pub at : lines.Event
  pub line : Line p s (take n es) packets contexts
  pub event_is : slice_get es n ≡ Some at
  pub not_put : IsNotPut (record { accepted = p; contexts = contexts }) at fault

-- the fault of a run whose event at the index is refused
abbrev pub run_fault : ℕ → PackFault → RunFault
run_fault n pack.OutOfMemory = OutOfMemory
run_fault n fault = Refused n fault

-- what a fault of a run says: the first event that is refused
abbrev pub BlamesRun : RunFault → Accepting → Contexts → List lines.Event → Type 0
BlamesRun (Refused n fault) p s es = IsStopped p s es n fault
BlamesRun OutOfMemory p s es = Unit {0}

-- On a new line of a version the octets are a line of the events, and the items are those that were sent.
pub record IsRun (p : Accepting) (version : LineVersion) (es : List lines.Event) (octets : List ℕ) (items : Found) : Type 0 where
  pub packets : List Packet
  pub contexts : Contexts
  pub line : Line p (no_entries version) es packets contexts
  pub octets_are : octets ≡ octets_of packets
  pub items_are : items ≡ items_sent es

-- The items are those that are heard of all octets, from empty contexts; what is left is the rest.
pub record IsWhole (p : Accepting) (version : LineVersion) (octets : List ℕ) (items : Found) (fault : Option LineFault) : Type 0 where
  pub rest : List ℕ
  pub contexts : Contexts
  pub heard : Heard p (no_entries version) octets items rest contexts
  pub end_is : end_of None rest ≡ fault

-- The items are those that are heard of the octets before one, and the fault comes at that octet.
pub record IsCut (p : Accepting) (version : LineVersion) (octets : List ℕ) (items : Found) (e : LineFault) : Type 0 where
  pub before : List ℕ
  pub octet : ℕ
  pub after : List ℕ
  pub rest : List ℕ
  pub contexts : Contexts
  pub octets_are : octets ≡ before ++ octet ∷ after
  pub heard : Heard p (no_entries version) before items rest contexts
  pub blames : BlamesOctet e p contexts rest octet

-- What is received of octets on a new line of a version: all of them, and then that they end inside a packet if they do; or those before a fault.
abbrev pub IsReceived : Accepting → LineVersion → List ℕ → Found → Option LineFault → Type 0
IsReceived p version octets items None = IsWhole p version octets items None
IsReceived p version octets items (Some Ended) = IsWhole p version octets items (Some Ended)
IsReceived p version octets items (Some line.OutOfMemory) = ⊥
IsReceived p version octets items (Some e) = IsCut p version octets items e
