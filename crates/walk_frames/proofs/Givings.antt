-- What frames give is one, and what was sent is given.
use Rattle.std.proofs.Common.{◌≡◌, ◌∙◌, refl, sym, ap, subst, ℕ, zero, suc, ◌<◌, ◌≤◌, Bool, false, List, [], ◌∷◌, ◌++◌, length, map, replicate, arith}
use Rattle.std.specs.Prelude.{slice_get, slice_set, Option, Some, None}
use Rattle.std.proofs.lemmas.List.{append-nil, append_cancel_left, length-replicate, map-append}
use Rattle.sem_bits.specs.Octets.{bits_of, Holds}
use Rattle.sem_context.specs.Entries.{Entries, bits_at}
use Rattle.sem_filling.specs.declared.filling.Filling.{Filling}
use Rattle.sem_filling.specs.declared.filling.Item.{Item}
use Rattle.sem_filling.specs.Fillings.{item, packed}
use Rattle.sem_filling.specs.Entries.{next}
use Rattle.sem_filling.proofs.FitsSized.{one_value}
use Rattle.cert_accepted.specs.Accepted.{Accepting, IsDeterminate}
use Rattle.walk_engine.specs.Reading.{Fitting, Fronts}
use Rattle.walk_line.specs.Lines.{Act, Contexts, Event}
use Rattle.walk_line.specs.Lines.Act.{Send, Reset}
use Rattle.walk_robust.specs.Sending.{Sending}
use Rattle.walk_frames.specs.Frames.{Frame, packet, overlong, reset}
use Rattle.walk_frames.specs.Sending.{Puts, Senders, Sends, Sent, emptied, events_sent, frames_sent, owns, sends_on, sent}
use Rattle.walk_frames.specs.Sending.Sends.{ended as sends_ended}
use Rattle.walk_frames.specs.Receiving.{Blames, Found, Gives, Judges, Receives, flow_of, judged, receives_on, tell, too_long}
use Rattle.walk_frames.specs.Receiving.Gives.{emptied as gives_nothing}
use Rattle.walk_frames.specs.Receiving.Receives.{ended as receives_ended}
use Rattle.walk_frames.specs.declared.given.Given.{Given}
use Rattle.walk_frames.specs.declared.given.Given.TheVariants as given
use Rattle.walk_frames.specs.declared.given.PacketRefusal.{PacketRefusal}
use Rattle.walk_frames.specs.declared.given.PacketRefusal.TheVariants.{Truncated, Refused, Padding, Length}
use Rattle.walk_frames.specs.Laws.{GivenOnce, SentIsGiven, all_sent, given_sent, item_in, items_in}
use Rattle.walk_frames.proofs.Hearings.{receives_at}

-- ---- one packet

module _ (p : Accepting) (det : IsDeterminate p) (ctx : Entries) (body : List ℕ) where
  at_front : (f : Filling) → Fitting p ctx f → Holds body (packed f) → Fronts p ctx (bits_of body) f
  at_front f fits holds = record { fits = fits; rest = replicate holds.padding false; front = holds.filled }

  -- what follows the packed bits is what they are filled with
  same_rest : (f g : Filling) (rest : List Bool) → Fitting p ctx f → (h : Holds body (packed f)) → Fitting p ctx g → bits_of body ≡ packed g ++ rest → rest ≡ replicate h.padding false
  same_rest f g rest fits h also are =
      let one : g ≡ f = det.top (bits_at ctx) (bits_of body) g f (record { fits = also; rest = rest; front = are }) (at_front f fits h) in
      append_cancel_left (packed f) rest (replicate h.padding false) (ap (λ z. packed z ++ rest) (sym one) ∙ sym are ∙ h.filled)

  pub never_refused : (f : Filling) → Fitting p ctx f → Holds body (packed f) → (why : PacketRefusal) → Blames why p ctx body → ⊥
  never_refused f fits h Truncated b = b.none f (at_front f fits h)
  never_refused f fits h (Refused at) b = b [] f (subst (λ bits. Fronts p ctx bits f) (sym (append-nil (bits_of body))) (at_front f fits h))
  never_refused f fits h Padding b =
      let zero_bits = same_rest f b.filling b.padding fits h b.fits b.bits_are in
      b.not_zero (zero_bits ∙ ap (λ n. replicate n false) (sym (ap length zero_bits ∙ length-replicate h.padding false)))
  never_refused f fits h Length b =
      let zero_bits = same_rest f b.filling b.more fits h b.fits b.bits_are in
      let count : length b.more ≡ h.padding = ap length zero_bits ∙ length-replicate h.padding false in
      omega (arith, count, b.many, h.few)

  pub judged_once : (new other : Entries) (g h : Given) → Judges g p ctx new body → Judges h p ctx other body → (item_in g ≡ item_in h) × (new ≡ other)
  judged_once new other (given.Item it) (given.Item also) a b =
      let one : a.filling ≡ b.filling = det.top (bits_at ctx) (bits_of body) a.filling b.filling (at_front a.filling a.fits a.holds) (at_front b.filling b.fits b.holds) in
      (ap Some (a.item_is ∙ ap item one ∙ sym b.item_is), a.next_is ∙ ap (next ctx) one ∙ sym b.next_is)
  judged_once new other (given.Item it) (given.Refused why) a b = absurd (never_refused a.filling a.fits a.holds why b.1)
  judged_once new other (given.Refused why) (given.Item it) a b = absurd (never_refused b.filling b.fits b.holds why a.1)
  judged_once new other (given.Refused why) (given.Refused other_why) a b = (refl, a.0 ∙ sym b.0)

-- ---- frames

gives_once : (p : Accepting) → IsDeterminate p → (k : ℕ) (old new other : Entries) (x y : Frame) (here also : List Given) → x ≡ y → Gives p old x here new → Gives p old y also other →
    (items_in (tell k here) ≡ items_in (tell k also)) × (new ≡ other)
gives_once p det k old new other x y here also e (judged {body = b} {g = g} j) (judged {body = c} {g = h} i) =
    let same : b ≡ c = cc in
    let r = judged_once p det old c new other g h (subst (λ z. Judges g p old new z) same j) i in
    (ap (λ o. (k, o) ∷ []) r.0, r.1)
gives_once p det k old new other x y here also e (judged j) too_long = absurd (cc)
gives_once p det k old new other x y here also e (judged j) gives_nothing = absurd (cc)
gives_once p det k old new other x y here also e too_long (judged j) = absurd (cc)
gives_once p det k old new other x y here also e too_long too_long = (refl, refl)
gives_once p det k old new other x y here also e too_long gives_nothing = absurd (cc)
gives_once p det k old new other x y here also e gives_nothing (judged j) = absurd (cc)
gives_once p det k old new other x y here also e gives_nothing too_long = absurd (cc)
gives_once p det k old new other x y here also e gives_nothing gives_nothing = (refl, refl)

once_by : (p : Accepting) → IsDeterminate p → (s t r u : Contexts) (xs ys : List Frame) (found others : Found) → xs ≡ ys → s ≡ r → Receives p s xs found t → Receives p r ys others u →
    (items_in found ≡ items_in others) × (t ≡ u)
once_by p det s t r u xs ys found others e same receives_ended receives_ended = (refl, same)
once_by p det s t r u xs ys found others e same receives_ended (receives_on old new here later all_is there gives more) = absurd (cc)
once_by p det s t r u xs ys found others e same (receives_on old new here later all_is there gives more) receives_ended = absurd (cc)
once_by p det s t r u xs ys found others e same (receives_on {x = x} {xs = cs} old new here later all_is there gives more) (receives_on {x = y} {xs = bs} old' new' here' later' all_is' there' gives' more') =
    let heads : x ≡ y = cc in
    let tails : cs ≡ bs = cc in
    let flows : flow_of x ≡ flow_of y = ap flow_of heads in
    let olds : old' ≡ old = one_value _ old' old there' (ap (slice_get r) (sym flows) ∙ ap (λ z. slice_get z (flow_of x)) (sym same) ∙ there) in
    let one = gives_once p det (flow_of x) old new new' x y here here' heads gives (subst (λ z. Gives p z y here' new') olds gives') in
    let next_same : slice_set s (flow_of x) new ≡ slice_set r (flow_of y) new' = λ i. slice_set (same i) (flows i) (one.1 i) in
    let rest = once_by p det (slice_set s (flow_of x) new) t (slice_set r (flow_of y) new') u cs bs later later' tails next_same more more' in (
      ap items_in all_is ∙ map-append (λ z. (z.0, item_in z.1)) (tell (flow_of x) here) later ∙ (λ i. one.0 i ++ rest.0 i)
          ∙ sym (map-append (λ z. (z.0, item_in z.1)) (tell (flow_of x) here') later') ∙ ap (λ k. items_in (tell k here' ++ later')) flows ∙ ap items_in (sym all_is'),
      rest.1,
    )

pub given_once : GivenOnce
given_once p det s t u frames found others a b = once_by p det s t s u frames frames found others refl refl a b

-- ---- what was sent

pub set_owns : (s : Senders) (k : ℕ) (new : Sending) → owns (slice_set s k new) ≡ slice_set (owns s) k new.own
set_owns [] k new = refl
set_owns (z ∷ s) zero new = refl
set_owns (z ∷ s) (suc k) new = ap (λ xs. z.own ∷ xs) (set_owns s k new)

get_owns : (s : Senders) (k : ℕ) (old : Sending) → slice_get s k ≡ Some old → slice_get (owns s) k ≡ Some old.own
get_owns [] k old at = absurd (cc)
get_owns (z ∷ s) zero old at = let same : z ≡ old = cc in ap (λ (y : Sending). Some y.own) same
get_owns (z ∷ s) (suc k) old at = get_owns s k old at

-- what an act is given as
abbrev pub givens : Act → List Given
givens (Send it) = given.Item it ∷ []
givens Reset = []

pub told_sent : (k : ℕ) (act : Act) → given_sent k act ≡ tell k (givens act)
told_sent k (Send it) = refl
told_sent k Reset = refl

pub frame_flow : {p : Accepting} {k : ℕ} {old new : Sending} {act : Act} {x : Frame} → Puts p k old act x new → flow_of x ≡ k
frame_flow (sent packed body is_sent holds) = refl
frame_flow (emptied empty) = refl

gives_own : {p : Accepting} {k : ℕ} {old new : Sending} {act : Act} {x : Frame} → Puts p k old act x new → Gives p old.own x (givens act) new.own
gives_own {p} {old = old} {new = new} (sent {it = it} pk body is_sent holds) =
    judged {g = given.Item it} (record {
      filling = pk.filling;
      fits = is_sent.best.best.fits;
      holds = subst (Holds body) is_sent.best.packed_is holds;
      next_is = is_sent.goes_on.own_is;
      item_is = sym is_sent.best.best.has;
    })
gives_own {p} {k} {old} {new} (emptied empty) = subst (λ c. Gives p old.own (reset k) [] c) (sym (ap (λ (z : Sending). z.own) empty.new_is)) gives_nothing

pub sent_is_given : SentIsGiven
sent_is_given p s t xs sends_ended = receives_ended
sent_is_given p s t xs (sends_on {x = x} {xs = rest} old new there puts more) =
    receives_at p (owns s) (owns t) x.frame (frames_sent rest) (all_sent (events_sent (x ∷ rest))) x.event.flow old.own new.own (givens x.event.act) (all_sent (events_sent rest)) (frame_flow puts)
    (ap (λ z. z ++ all_sent (events_sent rest)) (told_sent x.event.flow x.event.act)) (get_owns s x.event.flow old there) (gives_own puts)
    (subst (λ z. Receives p z (frames_sent rest) (all_sent (events_sent rest)) (owns t)) (set_owns s x.event.flow new) (sent_is_given p (slice_set s x.event.flow new) t rest more))
