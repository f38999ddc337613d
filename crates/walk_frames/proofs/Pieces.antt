-- What is heard piece by piece is heard of the whole.
use Rattle.std.proofs.Common.{◌≡◌, ◌∙◌, refl, sym, ap, subst, List, ℕ, [], ◌∷◌, ◌++◌, append_assoc}
use Rattle.std.specs.Prelude.{Option, Some, None}
use Rattle.cert_accepted.specs.Accepted.{Accepting}
use Rattle.walk_line.specs.Lines.{Contexts}
use Rattle.walk_frames.specs.Frames.{AreCut, AreFrames, octets_of}
use Rattle.walk_frames.specs.Receiving.{Found, Receives}
use Rattle.walk_frames.specs.Receiving.Receives.{ended as receives_ended}
use Rattle.walk_frames.specs.States.{BlamesFront, Hears, Receiver, Stops}
use Rattle.walk_frames.specs.declared.fault.FrameFault.{FrameFault}
use Rattle.walk_frames.specs.declared.fault.FrameFault.TheVariants.{FlowOctet, Ended, OutOfMemory}
use Rattle.walk_frames.proofs.Cuttings.{both, cuts_join, nothing_begun, octets_joined}
use Rattle.walk_frames.proofs.Hearings.{receives_join}

pub hears_nothing : (p : Accepting) (s : Contexts) → Hears (record { accepted = p; contexts = s; rest = []; fault = None }) (record { accepted = p; contexts = s; rest = []; fault = None }) [] []
hears_nothing p s = record {
  accepted_is = refl;
  well_before = refl;
  well = refl;
  frames = [];
  cut = record { are_frames = tt; octets_are = refl; begun = nothing_begun };
  received = receives_ended;
}

pub hears_join : (old mid new : Receiver) (piece more : List ℕ) (found later : Found) → Hears old mid piece found → Hears mid new more later → Hears old new (piece ++ more) (found ++ later)
hears_join old mid new piece more found later a b = record {
  accepted_is = b.accepted_is ∙ a.accepted_is;
  well_before = a.well_before;
  well = b.well;
  frames = a.frames ++ b.frames;
  cut = subst (λ z. AreCut z (a.frames ++ b.frames) new.rest) (append_assoc old.rest piece more) (cuts_join (old.rest ++ piece) more mid.rest new.rest a.frames b.frames a.cut b.cut);
  received = receives_join old.accepted old.contexts mid.contexts new.contexts a.frames b.frames found later a.received (subst (λ p. Receives p mid.contexts b.frames later new.contexts) a.accepted_is b.received);
}

blames_more : (e : FrameFault) (octets more : List ℕ) → BlamesFront e octets → BlamesFront e (octets ++ more)
blames_more FlowOctet octets more h = (h.0, h.1 ++ more, ap (λ z. z ++ more) h.2, h.3)
blames_more Ended octets more h = h
blames_more OutOfMemory octets more h = tt

-- a fault that comes in a later piece, of a receiver that began with nothing left
pub stops_further : (old mid : Receiver) (piece more last : List ℕ) (found later : Found) (e : FrameFault) → Hears old mid piece found → Stops mid.accepted mid.contexts (mid.rest ++ more) later e →
    Stops old.accepted old.contexts (old.rest ++ (piece ++ (more ++ last))) (found ++ later) e
stops_further old mid piece more last found later e a b = record {
  frames = a.frames ++ b.frames;
  are_frames = both a.frames b.frames a.cut.are_frames b.are_frames;
  after = b.after ++ last;
  octets_are = sym (append_assoc old.rest piece (more ++ last)) ∙ ap (λ z. z ++ (more ++ last)) a.cut.octets_are ∙ append_assoc (octets_of a.frames) mid.rest (more ++ last)
      ∙ ap (λ z. octets_of a.frames ++ z) (sym (append_assoc mid.rest more last) ∙ ap (λ z. z ++ last) b.octets_are ∙ append_assoc (octets_of b.frames) b.after last)
      ∙ sym (append_assoc (octets_of a.frames) (octets_of b.frames) (b.after ++ last)) ∙ ap (λ z. z ++ (b.after ++ last)) (sym (octets_joined a.frames b.frames));
  contexts = b.contexts;
  received = receives_join old.accepted old.contexts mid.contexts b.contexts a.frames b.frames found later a.received (subst (λ p. Receives p mid.contexts b.frames later b.contexts) a.accepted_is b.received);
  blames = blames_more e b.after last b.blames;
}
