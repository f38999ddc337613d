-- What senders and receivers keep, and what a call does to it.
use Rattle.std.specs.Prelude.{◌≡◌, ℕ, ◌<◌, ◌≤◌, List, [], ◌∷◌, ◌++◌, length, take, drop, slice_get, Option, Some, None}
use Rattle.cert_accepted.specs.Accepted.{Accepting}
use Rattle.walk_line.specs.Lines.{Act, Contexts, Event}
use Rattle.walk_line.specs.Lines.Act.{Send, Reset}
use Rattle.walk_robust.specs.Sending.{Sending}
use Rattle.walk_robust.specs.Answers as robust
use Rattle.walk_robust.specs.declared.sender.RobustFault.{RobustFault}
use Rattle.walk_frames.specs.Frames.{Frame, reset, AreCut, AreFrames, IsFrame, IsBegun, IsNoFlow, frame_octets, octets_of}
use Rattle.walk_frames.specs.Sending.{Puts, Senders, Sends, Sent}
use Rattle.walk_frames.specs.Receiving.{Found, Receives}
use Rattle.walk_frames.specs.declared.fault.FrameFault.{FrameFault}
use Rattle.walk_frames.specs.declared.fault.FrameFault.TheVariants.{FlowOctet, Ended, OutOfMemory}

-- ---- the sending end

pub record Sender : Type 0 where
  pub accepted : Accepting
  pub senders : Senders

-- the event was put out as a frame, whose octets are these
pub record IsPut (old new : Sender) (e : Event) (octets : List ℕ) : Type 0 where
  pub accepted_is : new.accepted ≡ old.accepted
  pub frame : Frame
  pub is_frame : IsFrame frame
  pub sends : Sends old.accepted old.senders (record { event = e; frame = frame } ∷ []) new.senders
  pub octets_are : octets ≡ frame_octets frame

-- what a fault says of an act, of the flow's sender
abbrev pub BlamesAct : RobustFault → Accepting → Sending → Act → Type 0
BlamesAct e p s (Send it) = robust.Blames e p s it
BlamesAct e p s Reset = robust.LacksRoom e s

-- the event was not put out
pub record IsNotPut (old : Sender) (e : Event) (fault : RobustFault) : Type 0 where
  pub sender : Sending
  pub sender_is : slice_get old.senders e.flow ≡ Some sender
  pub blames : BlamesAct fault old.accepted sender e.act

-- the frame of an act was added to the octets, and its flow's sender is another then
pub record PutsOut (p : Accepting) (flow : ℕ) (old : Sending) (act : Act) (new : Sending) (before after : List ℕ) : Type 0 where
  pub frame : Frame
  pub is_frame : IsFrame frame
  pub puts : Puts p flow old act frame new
  pub after_is : after ≡ before ++ frame_octets frame

-- that of a reset
pub record PutsReset (flow : ℕ) (old new : Sending) (before after : List ℕ) : Type 0 where
  pub emptied : robust.IsEmptied old new
  pub after_is : after ≡ before ++ frame_octets (reset flow)

-- ---- the receiving end

pub record Receiver : Type 0 where
  pub accepted : Accepting
  pub contexts : Contexts
  -- the octets of a frame that is not whole yet
  pub rest : List ℕ
  -- the fault that came, if one did
  pub fault : Option FrameFault

-- so many of the octets are these frames, which give this
pub record TakesTo (p : Accepting) (s t : Contexts) (octets : List ℕ) (n : ℕ) (found : Found) : Type 0 where
  pub frames : List Frame
  pub are_frames : AreFrames frames
  pub within : n ≤ length octets
  pub taken : take n octets ≡ octets_of frames
  pub received : Receives p s frames found t

-- of the octets after the rest the frames gave this, and less than a whole one is left
pub record Hears (old new : Receiver) (piece : List ℕ) (found : Found) : Type 0 where
  pub accepted_is : new.accepted ≡ old.accepted
  pub well_before : old.fault ≡ None
  pub well : new.fault ≡ None
  pub frames : List Frame
  pub cut : AreCut (old.rest ++ piece) frames new.rest
  pub received : Receives old.accepted old.contexts frames found new.contexts

-- what a fault says of the octets at which it comes
abbrev pub BlamesFront : FrameFault → List ℕ → Type 0
BlamesFront FlowOctet octets = (at : ℕ) × (after : List ℕ) × (octets ≡ at ∷ after) × IsNoFlow at
BlamesFront Ended octets = ⊥
BlamesFront OutOfMemory octets = Unit {0}

-- the frames before the fault gave this
pub record Stops (p : Accepting) (s : Contexts) (octets : List ℕ) (found : Found) (e : FrameFault) : Type 0 where
  pub frames : List Frame
  pub are_frames : AreFrames frames
  pub after : List ℕ
  pub octets_are : octets ≡ octets_of frames ++ after
  pub contexts : Contexts
  pub received : Receives p s frames found contexts
  pub blames : BlamesFront e after

-- A fault that came before is answered again, and gives nothing; else it comes in the piece.
abbrev pub FailsIn : Option FrameFault → Receiver → List ℕ → Found → FrameFault → Type 0
FailsIn (Some before) old piece found e = (e ≡ before) × (found ≡ [])
FailsIn None old piece found e = Stops old.accepted old.contexts (old.rest ++ piece) found e

-- The receiver keeps the fault, and answers it from then on.
pub record Fails (old new : Receiver) (piece : List ℕ) (found : Found) (e : FrameFault) : Type 0 where
  pub accepted_is : new.accepted ≡ old.accepted
  pub kept : new.fault ≡ Some e
  pub comes : FailsIn old.fault old piece found e

-- The end of the octets: a fault that came, or else that they end inside a frame, where something is left.
abbrev pub end_of : Option FrameFault → List ℕ → Option FrameFault
end_of (Some e) rest = Some e
end_of None [] = None
end_of None (x ∷ rest) = Some Ended
