-- What the octets so far of a packet say, and the octets that come piece by piece.
use Rattle.std.proofs.Common.{◌≡◌, ◌∙◌, refl, sym, ap, subst, ℕ, zero, suc, ◌+◌, ◌-◌, ◌<◌, ◌≤◌, ◌^◌, List, [], ◌∷◌, ◌++◌, length, take, drop, get_or, arith, append_assoc, ◌⊎◌, inl, inr}
use Rattle.std.specs.Prelude.{slice_get, slice_set, Option, Some, None}
use Rattle.std.proofs.lemmas.List.{take_more, take-append-drop, take-take, append-nil, drop_more, take_all, length-drop, length-set, length-take}
use Rattle.std.proofs.lemmas.Option.{slice_get_within, slice_get-get_or}
use Rattle.std.proofs.lemmas.Bool.{cases_lt}
use Rattle.sem_bits.proofs.CursorLists.{take_add}
use Rattle.sem_context.specs.Entries.{Entries}
use Rattle.sem_filling.specs.declared.filling.Item.{Item}
use Rattle.sem_filling.specs.Fillings.{item}
use Rattle.sem_filling.specs.Entries.{next}
use Rattle.sem_filling.proofs.FitsSized.{one_value}
use Rattle.cert_accepted.specs.Accepted.{Accepting}
use Rattle.walk_line.specs.Lines.{Contexts, reset_octet}
use Rattle.walk_line.specs.Hearing.{Found, Whole, NoFront, IsPart, Heard, BlamesOctet, packet, reset, nothing, begun, waits, goes_on}
use Rattle.walk_line.specs.States.{Receiving, Hears, HearsFirst, Stops, Fails, FailsIn, FailsAt}
use Rattle.walk_line.specs.Steps.{IsFresh, IsTaken, IsAwaited, BlamesPacket, IsNew, BlamesBegun, IsHeard, IsHeardWhole}
use Rattle.walk_line.specs.declared.fault.LineFault.{LineFault}
use Rattle.walk_line.specs.declared.fault.LineFault.TheVariants.{FlowOctet, RefusedPacket, Padding, Ended, OutOfMemory}
use Rattle.walk_line.proofs.HearingCases.{BegunParts, part_parts}
use Rattle.walk_line.proofs.Hearings.{heard_join}
use Rattle.walk_line.proofs.StepsTrying.{last_of}

-- ---- the octets so far

set_same : {A : Type 0} (xs : List A) (i : ℕ) (x : A) → slice_get xs i ≡ Some x → slice_set xs i x ≡ xs
set_same [] i x e = refl
set_same (z ∷ xs) zero x e = let same : x ≡ z = cc in (λ i. same i ∷ xs)
set_same (z ∷ xs) (suc i) x e = let rest = set_same xs i x e in (λ k. z ∷ rest k)

-- part of a packet begins with its flow's octet
part_of : (p : Accepting) (s : Contexts) (first : ℕ) (before : List ℕ) (ctx : Entries) → IsPart p s (first ∷ before) → slice_get s first ≡ Some ctx → NoFront p ctx before
part_of p s first before ctx part there = by (part_parts part)
  where
    by : (first ∷ before ≡ []) ⊎ BegunParts p s (first ∷ before) → NoFront p ctx before
    by (inl e) = absurd (cc)
    by (inr n) =
        let whole : first ∷ before ≡ n.flow ∷ n.octets = n.rest_is in
        let flows : first ≡ n.flow = cc in
        let octets : n.octets ≡ before = cc in
        let contexts : n.ctx ≡ ctx = one_value _ n.ctx ctx (ap (slice_get s) flows ∙ n.context_is) there in
        subst (λ o. NoFront p ctx o) octets (subst (λ c. NoFront p c n.octets) contexts n.none)

part_below : (p : Accepting) (s : Contexts) (first : ℕ) (before : List ℕ) → IsPart p s (first ∷ before) → first < length s
part_below p s first before part = by (part_parts part)
  where
    by : (first ∷ before ≡ []) ⊎ BegunParts p s (first ∷ before) → first < length s
    by (inl e) = absurd (cc)
    by (inr n) =
        let whole : first ∷ before ≡ n.flow ∷ n.octets = n.rest_is in
        let flows : first ≡ n.flow = cc in
        let within : n.flow < length s = slice_get_within s n.flow n.ctx n.context_is in
        omega arith

pub fresh : (p : Accepting) (s : Contexts) (all octets : List ℕ) (first place : ℕ) (ctx : Entries) → IsNew p s all → all ≡ first ∷ octets → place ≡ first → slice_get s place ≡ Some ctx → IsFresh p ctx octets
fresh p s all octets first place ctx new e same there before last split =
    part_of p s first before ctx (new (first ∷ before) last (e ∙ ap (λ o. first ∷ o) split)) (ap (slice_get s) (sym same) ∙ there)

pub heard_awaited : (p : Accepting) (s : Contexts) (all octets : List ℕ) (first place : ℕ) (ctx new : Entries) → all ≡ first ∷ octets → place ≡ first → slice_get s place ≡ Some ctx → IsAwaited p ctx new octets →
    IsHeard p s (slice_set s place new) all all []
heard_awaited p s all octets first place ctx new e same there awaited =
    let kept : s ≡ slice_set s place new = sym (set_same s place ctx there) ∙ ap (slice_set s place) (sym awaited.same) in
    let at_first : slice_get s first ≡ Some ctx = ap (slice_get s) (sym same) ∙ there in
    let part : IsPart p s all = subst (λ o. IsPart p s o) (sym e) (begun first ctx at_first awaited.none) in
    let few : length octets < 2 ^ 20 = awaited.few in
    let count : length all ≡ length octets + 1 = ap length e ∙ omega arith in
    subst (λ t. IsHeard p s t all all []) kept (record { heard = waits part; part = part; few = omega arith; flows = refl })

pub heard_taken : (p : Accepting) (s : Contexts) (all octets rest : List ℕ) (first place flow : ℕ) (ctx new : Entries) (it : Item) → all ≡ first ∷ octets → place ≡ first → flow ≡ first → slice_get s place ≡ Some ctx →
    IsTaken p ctx new octets it → rest ≡ [] → IsHeard p s (slice_set s place new) all rest ((flow, it) ∷ [])
heard_taken p s all octets rest first place flow ctx new it e same flows there taken none =
    let at_first : slice_get s first ≡ Some ctx = ap (slice_get s) (sym same) ∙ there in
    let whole : Whole p s (first ∷ octets) ((first, item taken.filling) ∷ []) (slice_set s first (next ctx taken.filling)) = packet first ctx taken.filling at_first taken.fits taken.holds in
    let found : (flow, it) ∷ [] ≡ (first, item taken.filling) ∷ [] = ap (λ k. (k, it) ∷ []) flows ∙ ap (λ i. (first, i) ∷ []) taken.item_is in
    let after : slice_set s first (next ctx taken.filling) ≡ slice_set s place new = ap (λ k. slice_set s k (next ctx taken.filling)) (sym same) ∙ ap (slice_set s place) (sym taken.next_is) in
    let heard : Heard p s all ((flow, it) ∷ []) [] (slice_set s first (next ctx taken.filling)) =
    goes_on (first ∷ octets) [] ((first, item taken.filling) ∷ []) [] (slice_set s first (next ctx taken.filling)) (e ∙ sym (append-nil (first ∷ octets))) found whole (waits nothing) in
    let done : IsHeard p s (slice_set s first (next ctx taken.filling)) all [] ((flow, it) ∷ []) = record { heard = heard; part = nothing; few = omega arith; flows = length-set s first (next ctx taken.filling) } in
    subst (λ r. IsHeard p s (slice_set s place new) all r ((flow, it) ∷ [])) (sym none) (subst (λ t. IsHeard p s t all [] ((flow, it) ∷ [])) after done)

-- a whole packet that is told at once: the flow's octet, and so many of those after it
pub heard_whole : (p : Accepting) (s : Contexts) (octets more : List ℕ) (first place flow n : ℕ) (ctx new : Entries) (it : Item) → 0 < length octets → first ≡ get_or octets 0 0 → (m : ℕ) → more ≡ take m (drop 1 octets) → n ≤ length more →
    place ≡ first → flow ≡ first → slice_get s place ≡ Some ctx → IsTaken p ctx new (take n more) it → IsHeardWhole p s (slice_set s place new) octets (n + 1) ((flow, it) ∷ [])
heard_whole p s [] more first place flow n ctx new it some first_is m more_are few same flows there taken = absurd (omega arith)
heard_whole p s (x ∷ xs) more first place flow n ctx new it some first_is m more_are few same flows there taken =
    let count : length more ≤ length xs = subst (λ z. length z ≤ length xs) (sym more_are) (omega (arith, length-take m xs)) in
    let within : n ≤ m = omega (arith, few, ap length more_are, length-take m xs) in
    let front : take n more ≡ take n xs = ap (take n) more_are ∙ take-take n m xs within in
    let one_more : n + 1 ≡ suc n = omega arith in
    let is : take (n + 1) (x ∷ xs) ≡ first ∷ take n more = ap (λ k. take k (x ∷ xs)) one_more ∙ (λ i. sym first_is i ∷ sym front i) in
    record {
      some = omega arith;
      within = omega (arith, count, few);
      heard = (heard_taken p s (take (n + 1) (x ∷ xs)) (take n more) [] first place flow ctx new it is same flows there taken refl).heard;
    }

pub heard_reset : (p : Accepting) (s : Contexts) (all octets rest : List ℕ) (first flow place flows : ℕ) (new : Entries) → IsNew p s all → length s ≡ flows → all ≡ first ∷ octets → first ≡ reset_octet flows flow → flow < flows →
    place ≡ flow → new ≡ [] → rest ≡ [] → IsHeard p s (slice_set s place new) all rest []
heard_reset p s all octets rest first flow place flows new fresh_all n e is below same empty none = by (cases_lt 0 (length octets))
  where
    there : slice_get s flow ≡ Some (get_or s flow [])
    there = slice_get-get_or s flow [] (omega arith)

    by : (0 < length octets) ⊎ (length octets ≤ 0) → IsHeard p s (slice_set s place new) all rest []
    by (inl some) =
        let r = last_of octets some in
        let under : first < length s = part_below p s first r.0 (fresh_all (first ∷ r.0) r.1 (e ∙ ap (λ o. first ∷ o) r.2)) in
        let first_is : first ≡ flows + flow = is in absurd (omega arith)
    by (inr no_more) =
        let first_is : first ≡ flows + flow = is in
        let octet_is : first ≡ length s + flow = omega arith in
        let alone : octets ≡ [] = empty_list octets no_more in
        let one : all ≡ (length s + flow) ∷ [] = e ∙ ap (λ k. k ∷ octets) octet_is ∙ ap (λ o. (length s + flow) ∷ o) alone in
        let after : slice_set s flow [] ≡ slice_set s place new = ap (λ k. slice_set s k []) (sym same) ∙ ap (slice_set s place) (sym empty) in
        let heard : Heard p s all [] [] (slice_set s flow []) = goes_on ((length s + flow) ∷ []) [] [] [] (slice_set s flow []) one refl (reset flow (get_or s flow []) there) (waits nothing) in
        let done : IsHeard p s (slice_set s flow []) all [] [] = record { heard = heard; part = nothing; few = omega arith; flows = length-set s flow [] } in
        subst (λ q. IsHeard p s (slice_set s place new) all q []) (sym none) (subst (λ t. IsHeard p s t all [] []) after done)
      where
        empty_list : (xs : List ℕ) → length xs ≤ 0 → xs ≡ []
        empty_list [] l = refl
        empty_list (x ∷ xs) l = absurd (omega arith)

-- above the octets of resets nothing begins
pub start_fault : (p : Accepting) (s : Contexts) (all octets : List ℕ) (first flows : ℕ) → length s ≡ flows → all ≡ first ∷ octets → reset_octet flows flows ≤ first → BlamesBegun FlowOctet p s all
start_fault p s all octets first flows n e above = (first, octets, e, subst (λ k. reset_octet k k ≤ first) (sym n) above)

pub packet_fault : (p : Accepting) (s : Contexts) (all octets : List ℕ) (first place : ℕ) (ctx : Entries) (e : LineFault) → all ≡ first ∷ octets → place ≡ first → slice_get s place ≡ Some ctx → BlamesPacket e p ctx octets → BlamesBegun e p s all
packet_fault p s all octets first place ctx FlowOctet is same there b = absurd b
packet_fault p s all octets first place ctx RefusedPacket is same there b =
    record { flow = first; octets = octets; ctx = ctx; begun_is = is; context_is = ap (slice_get s) (sym same) ∙ there; none = b }
packet_fault p s all octets first place ctx Padding is same there b =
    record { flow = first; octets = octets; ctx = ctx; filling = b.filling; padding = b.padding; begun_is = is; context_is = ap (slice_get s) (sym same) ∙ there; fits = b.fits; bits_are = b.bits_are; few = b.few; not_zero = b.not_zero }
packet_fault p s all octets first place ctx Ended is same there b = absurd b
packet_fault p s all octets first place ctx OutOfMemory is same there b = tt

-- ---- one more octet

same_last : (a b : List ℕ) (x y : ℕ) → a ++ x ∷ [] ≡ b ++ y ∷ [] → (a ≡ b) × (x ≡ y)
same_last [] [] x y e = (refl, (cc))
same_last [] (z ∷ []) x y e = absurd (cc)
same_last [] (z ∷ (w ∷ b)) x y e = absurd (cc)
same_last (z ∷ []) [] x y e = absurd (cc)
same_last (z ∷ (w ∷ a)) [] x y e = absurd (cc)
same_last (z ∷ a) (w ∷ b) x y e =
    let rest : a ++ x ∷ [] ≡ b ++ y ∷ [] = cc in
    let first : z ≡ w = cc in
    let r = same_last a b x y rest in
    ((λ i. first i ∷ r.0 i), r.1)

-- with one octet more, the octets before the last are the rest
pub new_after : (p : Accepting) (s : Contexts) (rest : List ℕ) (octet : ℕ) → IsPart p s rest → IsNew p s (rest ++ octet ∷ [])
new_after p s rest octet part before last e = subst (λ r. IsPart p s r) (same_last rest before octet last e).0 part

pub octet_fault : (p : Accepting) (s : Contexts) (rest : List ℕ) (octet : ℕ) (e : LineFault) → IsPart p s rest → BlamesBegun e p s (rest ++ octet ∷ []) → BlamesOctet e p s rest octet
octet_fault p s [] octet FlowOctet part b =
    let whole : octet ∷ [] ≡ b.0 ∷ b.1 = b.2 in
    let same : b.0 ≡ octet = cc in
    (refl, subst (λ k. reset_octet (length s) (length s) ≤ k) same b.3)
octet_fault p s (first ∷ rest) octet FlowOctet part b =
    let whole : first ∷ (rest ++ octet ∷ []) ≡ b.0 ∷ b.1 = b.2 in
    let same : first ≡ b.0 = cc in
    let above : length s + length s ≤ b.0 = b.3 in
    let under : first < length s = part_below p s first rest part in
    absurd (omega arith)
octet_fault p s rest octet RefusedPacket part b = b
octet_fault p s rest octet Padding part b = b
octet_fault p s rest octet Ended part b = b
octet_fault p s rest octet OutOfMemory part b = b

-- ---- a piece

pub hears_nothing : (old : Receiving) → old.fault ≡ None → IsPart old.accepted old.contexts old.rest → Hears old old [] []
hears_nothing old well part = record {
  accepted_is = refl;
  well_before = well;
  well = well;
  heard = subst (λ o. Heard old.accepted old.contexts o [] old.rest old.contexts) (sym (append-nil old.rest)) (waits part);
}

-- a whole packet, after which nothing is left
pub hears_whole : (p : Accepting) (s t : Contexts) (rest left : List ℕ) (fault : Option LineFault) (octets : List ℕ) (n : ℕ) (found : Found) → rest ≡ [] → left ≡ [] → fault ≡ None → IsHeardWhole p s t octets n found →
    HearsFirst (record { accepted = p; contexts = s; rest = rest; fault = fault }) (record { accepted = p; contexts = t; rest = left; fault = fault }) octets n found
hears_whole p s t rest left fault octets n found none empty well h = record {
  some = h.some;
  within = h.within;
  hears = record {
    accepted_is = refl;
    well_before = well;
    well = well;
    heard = subst (λ r. Heard p s (r ++ take n octets) found left t) (sym none) (subst (λ r. Heard p s (take n octets) found r t) (sym empty) h.heard);
  };
}

-- one octet
pub hears_octet : (old new : Receiving) (octets : List ℕ) (octet : ℕ) (found : Found) → 0 < length octets → octet ≡ get_or octets 0 0 → Hears old new (octet ∷ []) found → HearsFirst old new octets 1 found
hears_octet old new [] octet found some is h = absurd (omega arith)
hears_octet old new (x ∷ xs) octet found some is h = record { some = omega arith; within = omega arith; hears = subst (λ o. Hears old new (o ∷ []) found) is h }

-- so many more, after so many
pub hears_further : (old mid new : Receiving) (piece octets : List ℕ) (place n : ℕ) (found more : Found) → octets ≡ drop place piece → Hears old mid (take place piece) found → HearsFirst mid new octets n more → Hears old new (take (place + n) piece) (found ++ more)
hears_further old mid new piece octets place n found more are a b =
    let b_heard : Heard old.accepted mid.contexts (mid.rest ++ take n octets) more new.rest new.contexts = subst (λ p. Heard p mid.contexts (mid.rest ++ take n octets) more new.rest new.contexts) a.accepted_is b.hears.heard in
    let joined : Heard old.accepted old.contexts ((old.rest ++ take place piece) ++ take n octets) (found ++ more) new.rest new.contexts =
    heard_join old.accepted old.contexts mid.contexts new.contexts (old.rest ++ take place piece) (take n octets) mid.rest new.rest found more a.heard b_heard in
    let all : (old.rest ++ take place piece) ++ take n octets ≡ old.rest ++ take (place + n) piece =
    append_assoc old.rest (take place piece) (take n octets) ∙ ap (λ o. old.rest ++ (take place piece ++ take n o)) are ∙ ap (λ o. old.rest ++ o) (sym (take_add place n piece)) in
    record {
      accepted_is = b.hears.accepted_is ∙ a.accepted_is;
      well_before = a.well_before;
      well = b.hears.well;
      heard = subst (λ o. Heard old.accepted old.contexts o (found ++ more) new.rest new.contexts) all joined;
    }

-- memory ran out at the octet
pub fails_at : (p : Accepting) (s t : Contexts) (rest left : List ℕ) (fault : Option LineFault) (octet : ℕ) → FailsAt (record { accepted = p; contexts = s; rest = rest; fault = fault }) (record { accepted = p; contexts = t; rest = left; fault = Some OutOfMemory }) octet OutOfMemory
fails_at p s t rest left fault octet = record { accepted_is = refl; kept = refl; blames = tt }

pub fails_more : (old mid new : Receiving) (piece : List ℕ) (i octet : ℕ) (found : Found) (e : LineFault) → i < length piece → octet ≡ get_or piece i 0 → Hears old mid (take i piece) found → FailsAt mid new octet e →
    Fails old new piece found e
fails_more old mid new piece i octet found e within is a b =
    let next_octet : take (i + 1) piece ≡ take i piece ++ octet ∷ [] = take_more piece i 0 within ∙ ap (λ o. take i piece ++ o ∷ []) (sym is) in
    let split : piece ≡ take i piece ++ octet ∷ drop (i + 1) piece =
    sym (take-append-drop (i + 1) piece) ∙ ap (λ o. o ++ drop (i + 1) piece) next_octet ∙ append_assoc (take i piece) (octet ∷ []) (drop (i + 1) piece) in
    let stops : Stops old piece found e = record {
      before = take i piece;
      octet = octet;
      after = drop (i + 1) piece;
      rest = mid.rest;
      contexts = mid.contexts;
      piece_is = split;
      heard = a.heard;
      blames = subst (λ p. BlamesOctet e p mid.contexts mid.rest octet) a.accepted_is b.blames;
    } in
    record { accepted_is = b.accepted_is ∙ a.accepted_is; kept = b.kept; comes = subst (λ f. FailsIn f old piece found e) (sym a.well_before) stops }

-- what is left of a piece from a place on
abbrev pub slice_from : List ℕ → ℕ → List ℕ
slice_from piece place = take (length piece - place) (drop place piece)

pub slice_left : (piece : List ℕ) (place : ℕ) → slice_from piece place ≡ drop place piece
slice_left piece place = take_all (length piece - place) (drop place piece) (omega (arith, length-drop place piece))

pub within_piece : (piece octets : List ℕ) (place n : ℕ) → octets ≡ drop place piece → place ≤ length piece → n ≤ length octets → place + n ≤ length piece
within_piece piece octets place n are within few =
    let count : length octets ≡ length (drop place piece) = ap length are in
    omega (arith, length-drop place piece, count, within, few)

pub fails_next : (old mid new : Receiving) (piece octets : List ℕ) (place : ℕ) (found : Found) (e : LineFault) → place < length piece → octets ≡ drop place piece → Hears old mid (take place piece) found →
    FailsAt mid new (get_or octets 0 0) e → Fails old new piece found e
fails_next old mid new piece octets place found e within are hears fails =
    fails_more old mid new piece place (get_or octets 0 0) found e within (ap (λ o. get_or o 0 0) (are ∙ drop_more piece place 0 within)) hears fails
