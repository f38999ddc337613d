-- What is heard of a line of frames piece by piece.
use Rattle.std.proofs.Common.{◌≡◌, ℕ, ◌+◌, ◌-◌, ◌<◌, ◌≤◌, List, [], ◌∷◌, ◌++◌, length, take, drop, refl, ap, sym, ◌∙◌, subst, append_assoc, arith}
use Rattle.std.specs.Prelude.{Option, Some, None, codes, decimal}
use Rattle.std.proofs.Math.Seq.{take-add}
use Rattle.std.proofs.lemmas.List.{append-nil, length-drop, take-append-drop, take_all}
use Rattle.sem_profile.specs.declared.profile.Method.{Method}
use Rattle.cert_accepted.specs.Accepted.{Accepting}
use Rattle.walk_frames.specs.Frames.{AreCut}
use Rattle.walk_frames.specs.Receiving.{Found, new_contexts}
use Rattle.walk_frames.specs.States.{FailsIn, Hears, Receiver, Stops, end_of}
use Rattle.walk_frames.specs.Runs.{IsReceived, IsWhole}
use Rattle.walk_frames.specs.declared.fault.FrameFault.{FrameFault}
use Rattle.walk_frames.specs.declared.fault.FrameFault.TheVariants.{FlowOctet, Ended, OutOfMemory}
use Rattle.walk_frames.proofs.Pieces.{hears_join, hears_nothing, stops_further}
use Rattle.tool_run.specs.Frames.{AreGivenLines, HearsPiece, IsHeardOut, IsPushed}

-- ---- the lines of some, and then of others

cut : (d s w rest more : List ℕ) → (d ++ s ++ w ++ 10 ∷ rest) ++ more ≡ d ++ s ++ w ++ 10 ∷ (rest ++ more)
cut d s w rest more = simp append_assoc

given_lines : (methods : List Method) (xs ys : Found) (lines more : List ℕ) → AreGivenLines methods xs lines → AreGivenLines methods ys more → AreGivenLines methods (xs ++ ys) (lines ++ more)
given_lines methods [] ys lines more none h = subst (λ t. AreGivenLines methods ys (t ++ more)) (sym none) h
given_lines methods (x ∷ xs) ys lines more h g =
    (h.0, h.1 ++ more, h.2, given_lines methods xs ys h.1 more h.3 g, ap (λ t. t ++ more) h.4 ∙ cut (decimal x.0) (codes " ") h.0 h.1 more)

pushed_further : (methods : List Method) (found others : Found) (before here after : List ℕ) → IsPushed methods found before here → IsPushed methods others here after → IsPushed methods (found ++ others) before after
pushed_further methods found others before here after one more = record {
  lines = one.lines ++ more.lines;
  spelled = given_lines methods found others one.lines more.lines one.spelled more.spelled;
  after_is = more.after_is ∙ ap (λ h. h ++ more.lines) one.after_is ∙ append_assoc before one.lines more.lines;
}

-- ---- piece by piece

-- a new receiver
abbrev pub start_of : Accepting → Receiver
start_of a = record { accepted = a; contexts = new_contexts; rest = []; fault = None }

-- so many of the octets were heard, and the lines of what they give were added
pub record HeardSoFar (a : Accepting) (octets : List ℕ) (place : ℕ) (now : Receiver) (before here : List ℕ) : Type 0 where
  pub within : place ≤ length octets
  pub found : Found
  pub hears : Hears (start_of a) now (take place octets) found
  pub pushed : IsPushed a.profile.methods found before here

pub heard_first : (a : Accepting) (octets : List ℕ) (now : Receiver) (text : List ℕ) → now ≡ start_of a → HeardSoFar a octets 0 now text text
heard_first a octets now text is = record {
  within = omega arith;
  found = [];
  hears = subst (λ (r : Receiver). Hears (start_of a) r [] []) (sym is) (hears_nothing a new_contexts);
  pushed = record { lines = []; spelled = refl; after_is = sym (append-nil text) };
}

pub heard_next : (a : Accepting) (octets piece : List ℕ) (place count : ℕ) (now next : Receiver) (before here after : List ℕ) → place + count ≤ length octets → piece ≡ take count (drop place octets)
    → HeardSoFar a octets place now before here → HearsPiece a.profile.methods now next piece here after None → HeardSoFar a octets (place + count) next before after
heard_next a octets piece place count now next before here after within is so_far heard =
    record {
      within = within;
      found = so_far.found ++ heard.0;
      hears = subst (λ z. Hears (start_of a) next z (so_far.found ++ heard.0)) (ap (λ z. take place octets ++ z) is ∙ sym (take-add place count octets))
          (hears_join (start_of a) now next (take place octets) piece so_far.found heard.0 so_far.hears heard.2);
      pushed = pushed_further a.profile.methods so_far.found heard.0 before here after so_far.pushed heard.1;
    }

-- the octets from a place up to so many after it
pub piece_is : (octets : List ℕ) (place count : ℕ) → take ((place + count) - place) (drop place octets) ≡ take count (drop place octets)
piece_is octets place count = ap (λ n. take n (drop place octets)) (omega arith)

-- ---- the end

only_ended : (rest : List ℕ) (e : FrameFault) → end_of None rest ≡ Some e → e ≡ Ended
only_ended [] e is = absurd (cc)
only_ended (x ∷ rest) e is = let same : Ended ≡ e = cc in sym same

heard_whole : (a : Accepting) (octets : List ℕ) (place : ℕ) (now : Receiver) (before here : List ℕ) (fault : Option FrameFault) → length octets ≤ place → end_of now.fault now.rest ≡ fault → (so_far : HeardSoFar a octets place now before here)
    → IsWhole a octets so_far.found fault
heard_whole a octets place now before here fault all is so_far = record {
  frames = so_far.hears.frames;
  rest = now.rest;
  contexts = now.contexts;
  cut = subst (λ o. AreCut o so_far.hears.frames now.rest) (take_all place octets all) so_far.hears.cut;
  received = so_far.hears.received;
  end_is = ap (λ f. end_of f now.rest) (sym so_far.hears.well) ∙ is;
}

pub heard_all : (a : Accepting) (octets : List ℕ) (place : ℕ) (now : Receiver) (before here : List ℕ) → length octets ≤ place → end_of now.fault now.rest ≡ None → HeardSoFar a octets place now before here
    → IsHeardOut a octets before here None
heard_all a octets place now before here all is so_far =
    record { found = so_far.found; received = heard_whole a octets place now before here None all is so_far; pushed = so_far.pushed }

pub heard_ended : (a : Accepting) (octets : List ℕ) (place : ℕ) (now : Receiver) (before here : List ℕ) (e : FrameFault) → length octets ≤ place → end_of now.fault now.rest ≡ Some e → HeardSoFar a octets place now before here
    → IsHeardOut a octets before here (Some e)
heard_ended a octets place now before here e all is so_far =
    let ended : e ≡ Ended = only_ended now.rest e (ap (λ f. end_of f now.rest) (sym so_far.hears.well) ∙ is) in
    let whole : IsWhole a octets so_far.found (Some Ended) = heard_whole a octets place now before here (Some Ended) all (is ∙ ap Some ended) so_far in
    subst (λ (f : FrameFault). IsHeardOut a octets before here (Some f)) (sym ended) (record { found = so_far.found; received = whole; pushed = so_far.pushed })

-- ---- a fault

stops_is : (a : Accepting) (octets : List ℕ) (found : Found) (e : FrameFault) → (e ≡ OutOfMemory → ⊥) → Stops a new_contexts octets found e → IsReceived a octets found (Some e)
stops_is a octets found FlowOctet other is = is
stops_is a octets found Ended other is = absurd is.blames
stops_is a octets found OutOfMemory other is = absurd (other refl)

pub heard_fault : (a : Accepting) (octets piece : List ℕ) (place count : ℕ) (now next : Receiver) (before here after : List ℕ) (e : FrameFault) → piece ≡ take count (drop place octets) → HeardSoFar a octets place now before here
    → HearsPiece a.profile.methods now next piece here after (Some e) → IsHeardOut a octets before after (Some e)
heard_fault a octets piece place count now next before here after e is so_far heard =
    let stops : Stops now.accepted now.contexts (now.rest ++ piece) heard.0 e = subst (λ f. FailsIn f now piece heard.0 e) so_far.hears.well heard.2.comes in
    let parted : octets ≡ take place octets ++ (piece ++ drop count (drop place octets)) =
    sym (take-append-drop place octets) ∙ ap (λ o. take place octets ++ o) (sym (take-append-drop count (drop place octets)) ∙ ap (λ p. p ++ drop count (drop place octets)) (sym is)) in
    record {
      found = so_far.found ++ heard.0;
      received = stops_is a octets (so_far.found ++ heard.0) e heard.3
          (subst (λ o. Stops a new_contexts o (so_far.found ++ heard.0) e) (sym parted)
          (stops_further (start_of a) now (take place octets) piece (drop count (drop place octets)) so_far.found heard.0 e so_far.hears stops));
      pushed = pushed_further a.profile.methods so_far.found heard.0 before here after so_far.pushed heard.1;
    }
