-- Whole runs: a list of events, and all octets of a line.
use Rattle.std.specs.Prelude.{◌≡◌, ℕ, List, [], ◌∷◌, ◌++◌, take, slice_get, Option, Some, None}
use Rattle.cert_accepted.specs.Accepted.{Accepting}
use Rattle.walk_line.specs.Lines.{Contexts, Event}
use Rattle.walk_robust.specs.declared.sender.RobustFault.{RobustFault}
use Rattle.walk_frames.specs.Frames.{Frame, AreCut, AreFrames, octets_of}
use Rattle.walk_frames.specs.Sending.{Senders, Sends, Sent, events_sent, frames_sent, new_senders}
use Rattle.walk_frames.specs.Receiving.{Found, Receives, new_contexts}
use Rattle.walk_frames.specs.States.{BlamesFront, IsNotPut, Sender, Stops, end_of}
use Rattle.walk_frames.specs.declared.fault.FrameFault.{FrameFault}
use Rattle.walk_frames.specs.declared.fault.FrameFault.TheVariants.{Ended}
use Rattle.walk_frames.specs.declared.fault.FrameFault.TheVariants as fault
use Rattle.walk_frames.specs.declared.runs.RunFault.{RunFault}
use Rattle.walk_frames.specs.declared.runs.RunFault.TheVariants.{Refused, OutOfMemory}

-- the events were put out, one after the other
pub record ArePut (old new : Sender) (es : List Event) (before after : List ℕ) : Type 0 where
  pub accepted_is : new.accepted ≡ old.accepted
  pub sent : List Sent
  pub events_are : events_sent sent ≡ es
  pub sends : Sends old.accepted old.senders sent new.senders
  pub are_frames : AreFrames (frames_sent sent)
  pub after_is : after ≡ before ++ octets_of (frames_sent sent)

-- The events before this one were put out, and it is refused.
pub record IsStopped (old : Sender) (es : List Event) (n : ℕ) (fault : RobustFault) : Type 0 where
  pub sent : List Sent
  pub senders : Senders
  pub at : Event
  pub events_are : events_sent sent ≡ take n es
  pub sends : Sends old.accepted old.senders sent senders
  pub event_is : slice_get es n ≡ Some at
  pub not_put : IsNotPut (record { accepted = old.accepted; senders = senders }) at fault

-- what a fault says of events: the first that is refused
abbrev pub BlamesEvents : RunFault → Sender → List Event → Type 0
BlamesEvents (Refused n fault) old es = IsStopped old es n fault
BlamesEvents OutOfMemory old es = Unit {0}

-- and of those of a run
abbrev pub BlamesRun : RunFault → Accepting → ℕ → List Event → Type 0
BlamesRun e p lost es = BlamesEvents e (record { accepted = p; senders = new_senders lost }) es

-- With new senders the events put out frames, whose octets these are.
pub record IsRun (p : Accepting) (lost : ℕ) (es : List Event) (octets : List ℕ) : Type 0 where
  pub sent : List Sent
  pub senders : Senders
  pub events_are : events_sent sent ≡ es
  pub sends : Sends p (new_senders lost) sent senders
  pub are_frames : AreFrames (frames_sent sent)
  pub octets_are : octets ≡ octets_of (frames_sent sent)

-- The octets are frames that give this to a new receiver, and then a rest.
pub record IsWhole (p : Accepting) (octets : List ℕ) (found : Found) (fault : Option FrameFault) : Type 0 where
  pub frames : List Frame
  pub rest : List ℕ
  pub contexts : Contexts
  pub cut : AreCut octets frames rest
  pub received : Receives p new_contexts frames found contexts
  pub end_is : end_of None rest ≡ fault

-- What a new receiver gives of octets: of all frames, and then that they end inside one if they do; or of those before an octet with which none begins.
abbrev pub IsReceived : Accepting → List ℕ → Found → Option FrameFault → Type 0
IsReceived p octets found None = IsWhole p octets found None
IsReceived p octets found (Some Ended) = IsWhole p octets found (Some Ended)
IsReceived p octets found (Some fault.FlowOctet) = Stops p new_contexts octets found fault.FlowOctet
IsReceived p octets found (Some fault.OutOfMemory) = ⊥
