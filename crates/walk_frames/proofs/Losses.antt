-- A lost frame harms its own flow alone.
use Rattle.std.proofs.Common.{◌≡◌, ◌∙◌, refl, sym, ap, subst, ℕ, zero, suc, ◌<◌, ◌≤◌, Bool, true, false, List, [], ◌∷◌, ◌++◌, length, map, replicate, filter, arith, ◌⊎◌, inl, inr}
use Rattle.std.specs.Prelude.{slice_get, slice_set, Option, Some, None, ◌==◌, get_or}
use Rattle.std.specs.List.{AllByRecursion}
use Rattle.std.proofs.lemmas.Bool.Decides.{eqb_tells}
use Rattle.std.proofs.lemmas.List.{get_or-replicate, length-replicate}
use Rattle.std.proofs.lemmas.Option.{slice_get-get_or}
use Rattle.sem_bits.specs.Octets.{Holds}
use Rattle.sem_context.specs.Entries.{Entries, bits_at}
use Rattle.sem_filling.specs.declared.filling.Filling.{Filling}
use Rattle.sem_filling.specs.declared.filling.Item.{Item}
use Rattle.sem_filling.specs.Fillings.{item, packed}
use Rattle.sem_filling.specs.Entries.{next}
use Rattle.sem_filling.specs.Fronts.{FitsTop}
use Rattle.sem_filling.proofs.FitsSized.{one_value}
use Rattle.cert_accepted.specs.Accepted.{Accepting, IsDeterminate}
use Rattle.sem_elsewhere.specs.Held.{Holding, IsHeld}
use Rattle.sem_elsewhere.proofs.Agreeing.{repaired}
use Rattle.sem_elsewhere.proofs.Holdings.{held_as}
use Rattle.walk_engine.specs.declared.search.Packed.{Packed}
use Rattle.walk_engine.specs.Reading.{Fitting}
use Rattle.walk_line.specs.Lines.{Act, Contexts, Event}
use Rattle.walk_line.specs.Lines.Act.{Send, Reset}
use Rattle.walk_line.proofs.Flows.{get_set_same}
use Rattle.walk_robust.specs.Sending.{Sending, held}
use Rattle.walk_robust.specs.Answers.{FitsEach, IsSent}
use Rattle.walk_robust.specs.Answers as robust
use Rattle.walk_robust.proofs.Resetting.{resets_are_held}
use Rattle.walk_frames.specs.Frames.{Frame, packet, overlong, reset, flow_limit}
use Rattle.walk_frames.specs.Sending.{Puts, Senders, Sends, Sent, emptied, events_sent, frames_sent, fresh, new_senders, sends_on, sent, sent_of}
use Rattle.walk_frames.specs.Sending.Sends.{ended as sends_ended}
use Rattle.walk_frames.specs.Receiving.{Found, Gives, IsRead, Judges, Receives, flow_of, found_of, frames_of, judged, new_contexts, receives_on, tell, too_long}
use Rattle.walk_frames.specs.Receiving.Gives.{emptied as gives_nothing}
use Rattle.walk_frames.specs.Receiving.Receives.{ended as receives_ended}
use Rattle.walk_frames.specs.declared.given.Given.{Given}
use Rattle.walk_frames.specs.declared.given.Given.TheVariants as given
use Rattle.walk_frames.specs.Laws.{ComesThrough, LossHarmsItsFlowAlone, all_over, all_sent, comes, given_sent, is_lost, item_in}
use Rattle.walk_frames.proofs.Givings.{frame_flow, judged_once}
use Rattle.walk_frames.proofs.Hearings.{dropped, each_is_heard_alone, each_is_sent_alone, kept}

-- ---- one frame

-- a filling that fits in the own context and in each of the others fits in each that is held
fits_held : (p : Accepting) (s : Sending) (f : Filling) → Fitting p s.own f → FitsEach p s.others f → (i : ℕ) (h : Holding) → slice_get (held s) i ≡ Some h → Fitting p h.context f
fits_held p s f own each zero h at = let same : s.own ≡ h.context = cc in subst (λ c. Fitting p c f) same own
fits_held p s f own each (suc i) h at = each i h at

-- so it fits where the receiver stands
fits_there : (p : Accepting) (s : Sending) (f : Filling) (gap : ℕ) (ctx : Entries) → Fitting p s.own f → FitsEach p s.others f → IsHeld (held s) gap ctx → Fitting p ctx f
fits_there p s f gap ctx own each h =
    subst (λ c. FitsTop p.profile.methods p.profile.top c f) (λ i path. h.same path i) (fits_held p s f own each h.place h.one h.at)

gives_packet : {p : Accepting} {old new : Entries} {x : Frame} {here : List Given} (k : ℕ) (body : List ℕ) → x ≡ packet k body → Gives p old x here new → (g : Given) × (here ≡ g ∷ []) × Judges g p old new body
gives_packet {p} {old} {new} k body e (judged {body = b} {g = g} j) = let same : b ≡ body = cc in (g, refl, subst (λ z. Judges g p old new z) same j)
gives_packet k body e too_long = absurd (cc)
gives_packet k body e gives_nothing = absurd (cc)

gives_reset : {p : Accepting} {old new : Entries} {x : Frame} {here : List Given} (k : ℕ) → x ≡ reset k → Gives p old x here new → (here ≡ []) × (new ≡ [])
gives_reset k e (judged j) = absurd (cc)
gives_reset k e too_long = absurd (cc)
gives_reset k e gives_nothing = (refl, refl)

only_item : (g : Given) (it : Item) → item_in g ≡ Some it → g ≡ given.Item it
only_item (given.Item also) it e = let same : also ≡ it = cc in ap (λ i. given.Item i) same
only_item (given.Refused why) it e = absurd (cc)

-- what comes of a frame that comes through
pub came : (p : Accepting) → IsDeterminate p → (k gap : ℕ) (old new : Sending) (act : Act) (x : Frame) (ctx after : Entries) (here : List Given) → Puts p k old act x new → IsHeld (held old) gap ctx → Gives p ctx x here after →
    (tell k here ≡ given_sent k act) × IsHeld (held new) 0 after
came p det k gap old new act x ctx after here (sent {it = it} pk body is_sent holds) h gives =
    let f : Filling = pk.filling in
    let g = gives_packet k body refl gives in
    let best = is_sent.best.best in
    let read : IsRead p ctx (next ctx f) body it = record {
      filling = f;
      fits = fits_there p old f gap ctx best.fits best.each h;
      holds = subst (Holds body) is_sent.best.packed_is holds;
      next_is = refl;
      item_is = sym best.has;
    } in
    let one = judged_once p det ctx body after (next ctx f) g.0 (given.Item it) g.2 read in
    let items : here ≡ given.Item it ∷ [] = g.1 ∙ ap (λ z. z ∷ []) (only_item g.0 it one.0) in
    let on = is_sent.goes_on.held_are.all.came h.place h.one h.at in (
      ap (tell k) items,
      subst (IsHeld (held new) 0) (sym one.1) (held_as (held new) 0 0 (next h.one.context f) (next ctx f) on refl (repaired h.one.context ctx f (λ path none. h.same path))),
    )
came p det k gap old new act x ctx after here (emptied empty) h gives =
    let r = gives_reset k refl gives in
    (ap (tell k) r.0, subst (λ (z : Sending). IsHeld (held z) 0 after) (sym empty.new_is) (subst (IsHeld (held (robust.emptied old)) 0) (sym r.1) (resets_are_held old).came))

-- and of one that is lost
pub was_lost : {p : Accepting} {k : ℕ} {act : Act} {x : Frame} {new : Sending} (gap : ℕ) (old : Sending) (ctx : Entries) → Puts p k old act x new → IsHeld (held old) gap ctx → gap < old.lost → IsHeld (held new) (suc gap) ctx
was_lost {new = new} gap old ctx (sent pk body is_sent holds) h fewer =
    let on = is_sent.goes_on.held_are.all.lost h.place h.one h.at (subst (λ g. g < old.lost) (sym h.gap_is) fewer) in
    held_as (held new) (suc h.one.gap) (suc gap) h.one.context ctx on (ap suc h.gap_is) h.same
was_lost {new = new} gap old ctx (emptied empty) h fewer =
    let on = (resets_are_held old).lost h.place h.one h.at (subst (λ g. g < old.lost) (sym h.gap_is) fewer) in
    subst (λ (z : Sending). IsHeld (held z) (suc gap) ctx) (sym empty.new_is) (held_as (held (robust.emptied old)) (suc h.one.gap) (suc gap) h.one.context ctx on (ap suc h.gap_is) h.same)

lost_stays : {p : Accepting} {k : ℕ} {old new : Sending} {act : Act} {x : Frame} → Puts p k old act x new → new.lost ≡ old.lost
lost_stays (sent pk body is_sent holds) = is_sent.goes_on.lost_is
lost_stays (emptied empty) = ap (λ (z : Sending). z.lost) empty.new_is

-- ---- many frames

-- how a list of frames that begins so gives what it gives
record Parts (p : Accepting) (s t : Contexts) (x : Frame) (xs : List Frame) (all : Found) : Type 0 where
  old : Entries
  new : Entries
  here : List Given
  later : Found
  all_is : all ≡ tell (flow_of x) here ++ later
  there : slice_get s (flow_of x) ≡ Some old
  gives : Gives p old x here new
  more : Receives p (slice_set s (flow_of x) new) xs later t

parts_of : {p : Accepting} {s t : Contexts} {fs : List Frame} {all : Found} (x : Frame) (xs : List Frame) → fs ≡ x ∷ xs → Receives p s fs all t → Parts p s t x xs all
parts_of x xs e receives_ended = absurd (cc)
parts_of {p} {s} {t} x xs e (receives_on {x = y} {xs = ys} {all = all} old new here later all_is there gives more) =
    let heads : y ≡ x = cc in
    let tails : ys ≡ xs = cc in
    subst (λ z. Parts p s t z xs all) heads (subst (λ zs. Parts p s t y zs all) tails (record { old = old; new = new; here = here; later = later; all_is = all_is; there = there; gives = gives; more = more }))

nothing_given : {p : Accepting} {s t : Contexts} {fs : List Frame} {all : Found} → fs ≡ [] → Receives p s fs all t → all ≡ []
nothing_given e receives_ended = refl
nothing_given e (receives_on old new here later all_is there gives more) = absurd (cc)

abbrev AreOf : ℕ → List Sent → Type 0
AreOf flow xs = AllByRecursion (λ (x : Sent). x.event.flow ≡ flow) xs

of_flow : (flow : ℕ) (xs : List Sent) → AreOf flow (sent_of flow xs)
of_flow flow [] = tt
of_flow flow (x ∷ xs) =
    elim (eqb_tells x.event.flow flow) [
      | inl h ↦ subst (AreOf flow) (sym (kept (λ (y : Sent). y.event.flow == flow) x xs h.0)) (h.1, of_flow flow xs)
      | inr h ↦ subst (AreOf flow) (sym (dropped (λ (y : Sent). y.event.flow == flow) x xs h.0)) (of_flow flow xs)
    ]

module _ (p : Accepting) (det : IsDeterminate p) (n flow : ℕ) where
  through : (gap : ℕ) (s end : Senders) (sender : Sending) (r t : Contexts) (ctx : Entries) {xs got : List Sent} (found : Found) → AreOf flow xs → slice_get s flow ≡ Some sender → sender.lost ≡ n → Sends p s xs end →
      ComesThrough n gap xs got → slice_get r flow ≡ Some ctx → IsHeld (held sender) gap ctx → Receives p r (frames_sent got) found t → found ≡ all_sent (events_sent got)
  through gap s end sender r t ctx found of at lost_is sends_ended all_over stands h receives = nothing_given refl receives
  through gap s end sender r t ctx found of at lost_is (sends_on {x = x} {xs = xs} old new there puts more) (comes {got = got} through_on) stands h receives =
      let k : ℕ = x.event.flow in
      let e : k ≡ flow = of.0 in
      let same : old ≡ sender = one_value _ old sender there (ap (slice_get s) e ∙ at) in
      let q = parts_of x.frame (frames_sent got) refl receives in
      let f : flow_of x.frame ≡ k = frame_flow puts in
      let standing : ctx ≡ q.old = one_value _ ctx q.old (ap (slice_get r) (f ∙ e) ∙ stands) q.there in
      let here = came p det k gap old new x.event.act x.frame q.old q.new q.here puts (subst (IsHeld (held old) gap) standing (subst (λ z. IsHeld (held z) gap ctx) (sym same) h)) q.gives in
      let later = through 0 (slice_set s k new) end new (slice_set r (flow_of x.frame) q.new) t q.new q.later of.1
      (ap (slice_get (slice_set s k new)) (sym e) ∙ get_set_same s k old new there) (lost_stays puts ∙ ap (λ (z : Sending). z.lost) same ∙ lost_is) more through_on
      (ap (slice_get (slice_set r (flow_of x.frame) q.new)) (sym (f ∙ e)) ∙ get_set_same r (flow_of x.frame) q.old q.new q.there) here.1 q.more in
      q.all_is ∙ ap (λ z. tell z q.here ++ q.later) f ∙ (λ i. here.0 i ++ later i)
  through gap s end sender r t ctx found of at lost_is (sends_on {x = x} {xs = xs} old new there puts more) (is_lost {got = got} fewer through_on) stands h receives =
      let k : ℕ = x.event.flow in
      let e : k ≡ flow = of.0 in
      let same : old ≡ sender = one_value _ old sender there (ap (slice_get s) e ∙ at) in
      let lost_too : old.lost ≡ n = ap (λ (z : Sending). z.lost) same ∙ lost_is in
      through (suc gap) (slice_set s k new) end new r t ctx found of.1
      (ap (slice_get (slice_set s k new)) (sym e) ∙ get_set_same s k old new there) (lost_stays puts ∙ lost_too) more through_on stands
      (was_lost gap old ctx puts (subst (λ z. IsHeld (held z) gap ctx) (sym same) h) (subst (λ m. gap < m) (sym lost_too) fewer)) receives

all_alike : {A : Type 0} (count i : ℕ) (x : A) → i < count → slice_get (replicate count x) i ≡ Some x
all_alike zero i x under = absurd (omega (arith, under))
all_alike (suc count) zero x under = refl
all_alike (suc count) (suc i) x under = all_alike count i x (omega (arith, under))

pub loss_harms_its_flow_alone : LossHarmsItsFlowAlone
loss_harms_its_flow_alone p det n flow small xs got end frames found t sends through_it frames_are receives =
    let alone_sent = each_is_sent_alone p (new_senders n) end (new_senders n) xs flow sends refl in
    let alone_heard = each_is_heard_alone p new_contexts t new_contexts frames found flow receives refl in
    through p det n flow 0 (new_senders n) alone_sent.end (fresh n) new_contexts alone_heard.end [] (found_of flow found) (of_flow flow xs) (all_alike flow_limit flow (fresh n) small) refl alone_sent.alone through_it
    (all_alike flow_limit flow [] small) (record { place = 0; one = record { gap = 0; context = [] }; at = refl; gap_is = refl; same = λ path. refl })
    (subst (λ fs. Receives p new_contexts fs (found_of flow found) alone_heard.end) frames_are alone_heard.alone)
