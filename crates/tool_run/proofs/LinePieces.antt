-- What is heard of a line piece by piece.
use Rattle.std.proofs.Common.{◌≡◌, ℕ, ◌+◌, ◌-◌, ◌<◌, ◌≤◌, List, [], ◌∷◌, ◌++◌, length, take, drop, refl, ap, sym, ◌∙◌, subst, append_assoc, arith}
use Rattle.std.specs.Prelude.{Option, Some, None, codes, decimal}
use Rattle.std.proofs.lemmas.List.{append-nil, length-drop, take-append-drop, take_all}
use Rattle.cert_accepted.specs.Accepted.{Accepting}
use Rattle.walk_line.specs.Lines.{no_entries}
use Rattle.walk_line.specs.Hearing.{BlamesOctet, Found, Heard, nothing}
use Rattle.walk_line.specs.States.{Receiving, Hears, HearsFirst, Stops, FailsIn, end_of}
use Rattle.walk_line.specs.Runs.{IsReceived, IsCut, IsWhole}
use Rattle.walk_line.specs.declared.fault.LineFault.{LineFault}
use Rattle.walk_line.specs.declared.fault.LineFault.TheVariants.{FlowOctet, RefusedPacket, Padding, Ended, OutOfMemory}
use Rattle.walk_line.specs.declared.flow.LineVersion.{LineVersion}
use Rattle.walk_line.proofs.Hearings.{heard_join}
use Rattle.walk_line.proofs.LinesBegun.{hears_nothing, hears_further}
use Rattle.tool_run.specs.Line.{AreItemLines, HearsPiece, IsHeardOut, IsPushed}

-- ---- the lines of items, and then of others

cut : (d s w rest more : List ℕ) → (d ++ s ++ w ++ 10 ∷ rest) ++ more ≡ d ++ s ++ w ++ 10 ∷ (rest ++ more)
cut d s w rest more = simp append_assoc

item_lines : (xs ys : Found) (lines more : List ℕ) → AreItemLines xs lines → AreItemLines ys more → AreItemLines (xs ++ ys) (lines ++ more)
item_lines [] ys lines more none h = subst (λ t. AreItemLines ys (t ++ more)) (sym none) h
item_lines (x ∷ xs) ys lines more h g =
    (h.0, h.1 ++ more, h.2, item_lines xs ys h.1 more h.3 g, ap (λ t. t ++ more) h.4 ∙ cut (decimal x.0) (codes " ") h.0 h.1 more)

pushed_further : (found others : Found) (before here after : List ℕ) → IsPushed found before here → IsPushed others here after → IsPushed (found ++ others) before after
pushed_further found others before here after one more = record {
  lines = one.lines ++ more.lines;
  spelled = item_lines found others one.lines more.lines one.spelled more.spelled;
  after_is = more.after_is ∙ ap (λ h. h ++ more.lines) one.after_is ∙ append_assoc before one.lines more.lines;
}

-- ---- piece by piece

-- the receiver of a new line
abbrev pub start_of : LineVersion → Accepting → Receiving
start_of version a = record { accepted = a; contexts = no_entries version; rest = []; fault = None }

-- so many of the octets were heard, and the lines of their items were added
pub record HeardSoFar (version : LineVersion) (a : Accepting) (octets : List ℕ) (place : ℕ) (now : Receiving) (before here : List ℕ) : Type 0 where
  pub within : place ≤ length octets
  pub found : Found
  pub hears : Hears (start_of version a) now (take place octets) found
  pub pushed : IsPushed found before here

pub heard_first : (version : LineVersion) (a : Accepting) (octets : List ℕ) (now : Receiving) (text : List ℕ) → now ≡ start_of version a → HeardSoFar version a octets 0 now text text
heard_first version a octets now text is = record {
  within = omega arith;
  found = [];
  hears = subst (λ (r : Receiving). Hears (start_of version a) r [] []) (sym is) (hears_nothing (start_of version a) refl nothing);
  pushed = record { lines = []; spelled = refl; after_is = sym (append-nil text) };
}

pub heard_next : (version : LineVersion) (a : Accepting) (octets piece : List ℕ) (place count : ℕ) (now next : Receiving) (before here after : List ℕ) → 0 < count → place + count ≤ length octets → piece ≡ take count (drop place octets)
    → HeardSoFar version a octets place now before here → HearsPiece now next piece here after None → HeardSoFar version a octets (place + count) next before after
heard_next version a octets piece place count now next before here after some within is so_far heard =
    let left : count ≤ length (drop place octets) = omega (arith, length-drop place octets, within) in
    let first : HearsFirst now next (drop place octets) count heard.0 = record { some = some; within = left; hears = subst (λ p. Hears now next p heard.0) is heard.2 } in
    record {
      within = within;
      found = so_far.found ++ heard.0;
      hears = hears_further (start_of version a) now next octets (drop place octets) place count so_far.found heard.0 refl so_far.hears first;
      pushed = pushed_further so_far.found heard.0 before here after so_far.pushed heard.1;
    }

-- the octets from a place up to so many after it
pub piece_is : (octets : List ℕ) (place count : ℕ) → take ((place + count) - place) (drop place octets) ≡ take count (drop place octets)
piece_is octets place count = ap (λ n. take n (drop place octets)) (omega arith)

-- ---- the end

only_ended : (rest : List ℕ) (e : LineFault) → end_of None rest ≡ Some e → e ≡ Ended
only_ended [] e is = absurd (cc)
only_ended (x ∷ rest) e is = let same : Ended ≡ e = cc in sym same

heard_whole : (version : LineVersion) (a : Accepting) (octets : List ℕ) (place : ℕ) (now : Receiving) (before here : List ℕ) (fault : Option LineFault) → length octets ≤ place → end_of now.fault now.rest ≡ fault → (so_far : HeardSoFar version a octets place now before here)
    → IsWhole a version octets so_far.found fault
heard_whole version a octets place now before here fault all is so_far = record {
  rest = now.rest;
  contexts = now.contexts;
  heard = subst (λ o. Heard a (no_entries version) o so_far.found now.rest now.contexts) (take_all place octets all) so_far.hears.heard;
  end_is = ap (λ f. end_of f now.rest) (sym so_far.hears.well) ∙ is;
}

pub heard_all : (version : LineVersion) (a : Accepting) (octets : List ℕ) (place : ℕ) (now : Receiving) (before here : List ℕ) → length octets ≤ place → end_of now.fault now.rest ≡ None → HeardSoFar version a octets place now before here
    → IsHeardOut version a octets before here None
heard_all version a octets place now before here all is so_far =
    record { found = so_far.found; received = heard_whole version a octets place now before here None all is so_far; pushed = so_far.pushed }

pub heard_ended : (version : LineVersion) (a : Accepting) (octets : List ℕ) (place : ℕ) (now : Receiving) (before here : List ℕ) (e : LineFault) → length octets ≤ place → end_of now.fault now.rest ≡ Some e → HeardSoFar version a octets place now before here
    → IsHeardOut version a octets before here (Some e)
heard_ended version a octets place now before here e all is so_far =
    let ended : e ≡ Ended = only_ended now.rest e (ap (λ f. end_of f now.rest) (sym so_far.hears.well) ∙ is) in
    let whole : IsWhole a version octets so_far.found (Some Ended) = heard_whole version a octets place now before here (Some Ended) all (is ∙ ap Some ended) so_far in
    subst (λ (f : LineFault). IsHeardOut version a octets before here (Some f)) (sym ended) (record { found = so_far.found; received = whole; pushed = so_far.pushed })

-- ---- a fault

cut_is : (version : LineVersion) (a : Accepting) (octets : List ℕ) (items : Found) (e : LineFault) → (e ≡ OutOfMemory → ⊥) → IsCut a version octets items e → IsReceived a version octets items (Some e)
cut_is version a octets items FlowOctet other is = is
cut_is version a octets items RefusedPacket other is = is
cut_is version a octets items Padding other is = is
cut_is version a octets items Ended other is = absurd is.blames
cut_is version a octets items OutOfMemory other is = absurd (other refl)

pub heard_fault : (version : LineVersion) (a : Accepting) (octets piece : List ℕ) (place count : ℕ) (now next : Receiving) (before here after : List ℕ) (e : LineFault) → piece ≡ take count (drop place octets) → HeardSoFar version a octets place now before here
    → HearsPiece now next piece here after (Some e) → IsHeardOut version a octets before after (Some e)
heard_fault version a octets piece place count now next before here after e is so_far heard = record {
  found = so_far.found ++ heard.0;
  received = cut_is version a octets (so_far.found ++ heard.0) e heard.3 whole;
  pushed = pushed_further so_far.found heard.0 before here after so_far.pushed heard.1;
}
  where
    stops : Stops now piece heard.0 e
    stops = subst (λ f. FailsIn f now piece heard.0 e) so_far.hears.well heard.2.comes

    parted : octets ≡ take place octets ++ (piece ++ drop count (drop place octets))
    parted = sym (take-append-drop place octets) ∙ ap (λ o. take place octets ++ o) (sym (take-append-drop count (drop place octets)) ∙ ap (λ p. p ++ drop count (drop place octets)) (sym is))

    moved : (front before after more : List ℕ) (octet : ℕ) → front ++ ((before ++ octet ∷ after) ++ more) ≡ (front ++ before) ++ octet ∷ (after ++ more)
    moved front before after more octet = simp append_assoc

    whole : IsCut a version octets (so_far.found ++ heard.0) e
    whole = record {
      before = take place octets ++ stops.before;
      octet = stops.octet;
      after = stops.after ++ drop count (drop place octets);
      rest = stops.rest;
      contexts = stops.contexts;
      octets_are = parted ∙ ap (λ p. take place octets ++ (p ++ drop count (drop place octets))) stops.piece_is ∙ moved (take place octets) stops.before stops.after (drop count (drop place octets)) stops.octet;
      heard = heard_join a (no_entries version) now.contexts stops.contexts (take place octets) stops.before now.rest stops.rest so_far.found heard.0 so_far.hears.heard
          (subst (λ p. Heard p now.contexts (now.rest ++ stops.before) heard.0 stops.rest stops.contexts) so_far.hears.accepted_is stops.heard);
      blames = subst (λ p. BlamesOctet e p stops.contexts stops.rest stops.octet) so_far.hears.accepted_is stops.blames;
    }
