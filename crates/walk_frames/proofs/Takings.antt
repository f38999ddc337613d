-- Frames that are taken one after the other.
use Rattle.std.proofs.Common.{◌≡◌, ◌∙◌, refl, sym, ap, subst, ℕ, zero, suc, ◌+◌, ◌-◌, ◌<◌, ◌≤◌, List, [], ◌∷◌, ◌++◌, length, take, drop, arith, append_assoc}
use Rattle.std.specs.Prelude.{slice_get, slice_set, slice_range, get_or, Option, Some, None}
use Rattle.std.proofs.Math.Seq.{take-add}
use Rattle.std.proofs.lemmas.List.{append-nil, length-append, length-drop, take-append-drop, drop_all}
use Rattle.std.proofs.lemmas.Option.{slice_get-get_or}
use Rattle.sem_context.specs.Entries.{Entries}
use Rattle.cert_accepted.specs.Accepted.{Accepting}
use Rattle.walk_line.specs.Lines.{Contexts}
use Rattle.walk_line.proofs.LinesBegun.{slice_from, slice_left, within_piece}
use Rattle.walk_frames.specs.Frames.{Frame, packet, overlong, reset, frame_octets, octets_of, flow_limit, AreCut, AreFrames, IsFrame, IsBegun, IsNoFlow}
use Rattle.walk_frames.specs.Fronts.{BeginsNone, StandsTo, body}
use Rattle.walk_frames.specs.Receiving.{Found, Gives, Judges, Receives, flow_of, judged, receives_on, tell, too_long}
use Rattle.walk_frames.specs.Receiving.Gives.{emptied as gives_nothing}
use Rattle.walk_frames.specs.Receiving.Receives.{ended as receives_ended}
use Rattle.walk_frames.specs.States.{BlamesFront, Fails, Hears, Receiver, Stops, TakesTo}
use Rattle.walk_frames.specs.declared.fault.FrameFault.{FrameFault}
use Rattle.walk_frames.specs.declared.fault.FrameFault.TheVariants.{FlowOctet, OutOfMemory}
use Rattle.walk_frames.specs.declared.given.Given.{Given}
use Rattle.walk_frames.specs.declared.given.Given.TheVariants as given
use Rattle.walk_frames.specs.declared.given.PacketRefusal.TheVariants.{Length}
use Rattle.walk_frames.proofs.Cuttings.{both, octets_joined, nothing_begun}
use Rattle.walk_frames.proofs.Hearings.{receives_join}

-- ---- one frame

take_front : (xs ys : List ℕ) → take (length xs) (xs ++ ys) ≡ xs
take_front [] ys = refl
take_front (x ∷ xs) ys = ap (λ z. x ∷ z) (take_front xs ys)

set_same : {A : Type 0} (xs : List A) (k : ℕ) (x : A) → slice_get xs k ≡ Some x → slice_set xs k x ≡ xs
set_same [] k x at = refl
set_same (y ∷ xs) zero x at = let same : x ≡ y = cc in ap (λ z. z ∷ xs) same
set_same (y ∷ xs) (suc k) x at = ap (λ z. y ∷ z) (set_same xs k x at)

takes_one : (p : Accepting) (s : Contexts) (octets : List ℕ) (n : ℕ) (x : Frame) (old new : Entries) (here : List Given) (found : Found) → StandsTo octets x n → slice_get s (flow_of x) ≡ Some old → Gives p old x here new →
    found ≡ tell (flow_of x) here → TakesTo p s (slice_set s (flow_of x) new) octets n found
takes_one p s octets n x old new here found stands there gives found_is =
    let whole : frame_octets x ++ stands.rest ≡ octets = sym stands.octets_are in
    let count : length octets ≡ length (frame_octets x) + length stands.rest = ap length stands.octets_are ∙ length-append (frame_octets x) stands.rest in
    record {
      frames = x ∷ [];
      are_frames = (stands.is_frame, tt);
      within = let e = stands.to_is in omega (arith, e, count);
      taken = ap (λ k. take k octets) stands.to_is ∙ ap (take (length (frame_octets x))) (sym whole) ∙ take_front (frame_octets x) stands.rest ∙ sym (append-nil (frame_octets x));
      received = receives_on old new here [] (found_is ∙ sym (append-nil (tell (flow_of x) here))) there gives receives_ended;
    }

there_is : (s : Contexts) (flow : ℕ) → length s ≡ flow_limit → flow < flow_limit → slice_get s flow ≡ Some (get_or s flow [])
there_is s flow count small = slice_get-get_or s flow [] (omega (arith, count, small))

pub reset_taken : (p : Accepting) (s : Contexts) (octets : List ℕ) (flow place : ℕ) (new : Entries) → length s ≡ flow_limit → StandsTo octets (reset flow) 1 → place ≡ flow → new ≡ [] → TakesTo p s (slice_set s place new) octets 1 []
reset_taken p s octets flow place new count stands same empty =
    subst (λ k. TakesTo p s (slice_set s k new) octets 1 []) (sym same)
    (takes_one p s octets 1 (reset flow) (get_or s flow []) new [] [] stands (there_is s flow count stands.is_frame) (subst (λ c. Gives p (get_or s flow []) (reset flow) [] c) (sym empty) gives_nothing) refl)

pub overlong_taken : (p : Accepting) (s : Contexts) (octets b : List ℕ) (flow to : ℕ) → length s ≡ flow_limit → StandsTo octets (overlong flow b) to → TakesTo p s s octets to ((flow, given.Refused Length) ∷ [])
overlong_taken p s octets b flow to count stands =
    let there = there_is s flow count stands.is_frame.0 in
    subst (λ t. TakesTo p s t octets to ((flow, given.Refused Length) ∷ [])) (set_same s flow (get_or s flow []) there)
    (takes_one p s octets to (overlong flow b) (get_or s flow []) (get_or s flow []) (given.Refused Length ∷ []) ((flow, given.Refused Length) ∷ []) stands there too_long refl)

pub packet_taken : (p : Accepting) (s : Contexts) (octets b here : List ℕ) (flow place to : ℕ) (old new : Entries) (g : Given) → StandsTo octets (packet flow b) to → place ≡ flow → slice_get s place ≡ Some old →
    here ≡ b → Judges g p old new here → TakesTo p s (slice_set s place new) octets to ((flow, g) ∷ [])
packet_taken p s octets b here flow place to old new g stands same there part judges =
    subst (λ k. TakesTo p s (slice_set s k new) octets to ((flow, g) ∷ [])) (sym same)
    (takes_one p s octets to (packet flow b) old new (g ∷ []) ((flow, g) ∷ []) stands (ap (slice_get s) (sym same) ∙ there) (judged (subst (λ z. Judges g p old new z) part judges)) refl)

some : (x : Frame) → 0 < length (frame_octets x)
some (packet flow b) = omega arith
some (overlong flow b) = omega arith
some (reset flow) = omega arith

pub some_octets : (octets : List ℕ) (x : Frame) (n : ℕ) → StandsTo octets x n → 0 < n
some_octets octets x n stands = let e = stands.to_is in let l = some x in omega (arith, e, l)

pub none_begins : (octets : List ℕ) → BeginsNone octets → BlamesFront FlowOctet octets
none_begins octets b = (b.octet, b.rest, b.octets_are, b.none)

-- ---- many frames

pub takes_none : (p : Accepting) (s : Contexts) (octets : List ℕ) → TakesTo p s s octets 0 []
takes_none p s octets = record { frames = []; are_frames = tt; within = omega arith; taken = refl; received = receives_ended }

pub takes_further : (p : Accepting) (s t u : Contexts) (octets piece : List ℕ) (place n : ℕ) (found more : Found) → piece ≡ drop place octets → TakesTo p s t octets place found → TakesTo p t u piece n more → TakesTo p s u octets (place + n) (found ++ more)
takes_further p s t u octets piece place n found more left a b = record {
  frames = a.frames ++ b.frames;
  are_frames = both a.frames b.frames a.are_frames b.are_frames;
  within = within_piece octets piece place n left a.within b.within;
  taken = take-add place n octets ∙ ap (λ z. take place octets ++ take n z) (sym left) ∙ (λ i. a.taken i ++ b.taken i) ∙ sym (octets_joined a.frames b.frames);
  received = receives_join p s t u a.frames b.frames found more a.received b.received;
}

pub takes_stop : (p : Accepting) (s t : Contexts) (octets piece : List ℕ) (place : ℕ) (found : Found) (e : FrameFault) → piece ≡ drop place octets → TakesTo p s t octets place found → BlamesFront e piece → Stops p s octets found e
takes_stop p s t octets piece place found e left a blames = record {
  frames = a.frames;
  are_frames = a.are_frames;
  after = piece;
  octets_are = sym (take-append-drop place octets) ∙ (λ i. a.taken i ++ sym left i);
  contexts = t;
  received = a.received;
  blames = blames;
}

pub all_cut : (p : Accepting) (s t : Contexts) (octets rest : List ℕ) (n : ℕ) (found : Found) → rest ≡ drop n octets → (a : TakesTo p s t octets n found) → IsBegun (drop n octets) → AreCut octets a.frames rest
all_cut p s t octets rest n found left a begun = record {
  are_frames = a.are_frames;
  octets_are = sym (take-append-drop n octets) ∙ (λ i. a.taken i ++ sym left i);
  begun = subst IsBegun (sym left) begun;
}

-- nothing was taken: memory is out
pub runs_out : (p : Accepting) (s : Contexts) (octets : List ℕ) → Stops p s octets [] OutOfMemory
runs_out p s octets = record { frames = []; are_frames = tt; after = octets; octets_are = refl; contexts = s; received = receives_ended; blames = tt }

-- what was taken stands, where memory runs out afterwards
pub runs_out_after : (p : Accepting) (s t : Contexts) (octets : List ℕ) (n : ℕ) (found : Found) → TakesTo p s t octets n found → Stops p s octets found OutOfMemory
runs_out_after p s t octets n found a = takes_stop p s t octets (drop n octets) n found OutOfMemory refl a tt
