-- Frames and what they give, flow by flow.
use Rattle.std.proofs.Common.{◌≡◌, ◌∙◌, refl, sym, ap, subst, ℕ, zero, suc, ◌<◌, Bool, true, false, List, [], ◌∷◌, ◌++◌, length, map, ◌⊎◌, inl, inr, append_assoc}
use Rattle.std.specs.Prelude.{slice_get, slice_set, Some, None, filter, ◌==◌, replicate}
use Rattle.std.proofs.lemmas.Bool.Decides.{eqb_tells}
use Rattle.std.proofs.lemmas.List.{append-nil}
use Rattle.sem_context.specs.Entries.{Entries}
use Rattle.cert_accepted.specs.Accepted.{Accepting}
use Rattle.walk_line.specs.Lines.{Act, Contexts, Event}
use Rattle.walk_line.specs.Lines.Act.{Send, Reset}
use Rattle.walk_line.proofs.Flows.{get_set_other, get_set_same}
use Rattle.walk_robust.specs.Sending.{Sending}
use Rattle.walk_frames.specs.Frames.{Frame}
use Rattle.walk_frames.specs.Sending.{Puts, Senders, Sends, Sent, sends_on, sent_of}
use Rattle.walk_frames.specs.Sending.Sends.{ended as sends_ended}
use Rattle.walk_frames.specs.Receiving.{Found, Gives, Receives, flow_of, found_of, frames_of, receives_on, tell}
use Rattle.walk_frames.specs.Receiving.Receives.{ended as receives_ended}
use Rattle.walk_frames.specs.declared.given.Given.{Given}
use Rattle.walk_frames.specs.Laws.{EachIsHeardAlone, EachIsSentAlone, IsHeardAlone, IsSentAlone}

pub kept : {A : Type 0} (test : A → Bool) (x : A) (xs : List A) → test x ≡ true → filter test (x ∷ xs) ≡ x ∷ filter test xs
kept test x xs e = rw e refl

pub dropped : {A : Type 0} (test : A → Bool) (x : A) (xs : List A) → test x ≡ false → filter test (x ∷ xs) ≡ filter test xs
dropped test x xs e = rw e refl

told_kept : (flow k : ℕ) (gs : List Given) (later : Found) → (k == flow) ≡ true → found_of flow (tell k gs ++ later) ≡ tell k gs ++ found_of flow later
told_kept flow k [] later e = refl
told_kept flow k (g ∷ gs) later e = kept (λ x. x.0 == flow) (k, g) (tell k gs ++ later) e ∙ ap (λ xs. (k, g) ∷ xs) (told_kept flow k gs later e)

told_dropped : (flow k : ℕ) (gs : List Given) (later : Found) → (k == flow) ≡ false → found_of flow (tell k gs ++ later) ≡ found_of flow later
told_dropped flow k [] later e = refl
told_dropped flow k (g ∷ gs) later e = dropped (λ x. x.0 == flow) (k, g) (tell k gs ++ later) e ∙ told_dropped flow k gs later e

-- the place of a flow in two lists, after both got the same there
set_alike : {A : Type 0} (s other : List A) (k flow : ℕ) (old new : A) → k ≡ flow → slice_get s k ≡ Some old → slice_get other flow ≡ slice_get s flow →
    (slice_get other k ≡ Some old) × (slice_get (slice_set other k new) flow ≡ slice_get (slice_set s k new) flow)
set_alike s other k flow old new e there at =
    let here : slice_get other k ≡ Some old = ap (slice_get other) e ∙ at ∙ ap (slice_get s) (sym e) ∙ there in
    (here, ap (slice_get (slice_set other k new)) (sym e) ∙ get_set_same other k old new here ∙ sym (get_set_same s k old new there) ∙ ap (slice_get (slice_set s k new)) e)

pub each_is_heard_alone : EachIsHeardAlone
each_is_heard_alone p s t other frames found flow receives_ended at = record { end = other; alone = receives_ended; end_is = at }
each_is_heard_alone p s t other frames found flow (receives_on {x = x} {xs = xs} old new here later all_is there gives more) at =
    by (λ o got. each_is_heard_alone p (slice_set s (flow_of x) new) t o xs later flow more got) (eqb_tells (flow_of x) flow)
  where
    by : ((o : Contexts) → slice_get o flow ≡ slice_get (slice_set s (flow_of x) new) flow → IsHeardAlone p o t xs later flow) →
        ((flow_of x == flow) ≡ true) × (flow_of x ≡ flow) ⊎ ((flow_of x == flow) ≡ false) × (flow_of x ≡ flow → ⊥) → IsHeardAlone p other t (x ∷ xs) found flow
    by after (inl h) =
        let both = set_alike s other (flow_of x) flow old new h.1 there at in
        let rest = after (slice_set other (flow_of x) new) both.1 in
        let given_is : found_of flow found ≡ tell (flow_of x) here ++ found_of flow later = ap (found_of flow) all_is ∙ told_kept flow (flow_of x) here later h.0 in
        record {
          end = rest.end;
          alone = subst (λ fs. Receives p other fs (found_of flow found) rest.end) (sym (kept (λ y. flow_of y == flow) x xs h.0))
              (receives_on old new here (found_of flow later) given_is both.0 gives rest.alone);
          end_is = rest.end_is;
        }
    by after (inr h) =
        let rest = after other (at ∙ sym (get_set_other s (flow_of x) flow new h.1)) in
        let given_is : found_of flow found ≡ found_of flow later = ap (found_of flow) all_is ∙ told_dropped flow (flow_of x) here later h.0 in
        record {
          end = rest.end;
          alone = subst (λ fs. Receives p other fs (found_of flow found) rest.end) (sym (dropped (λ y. flow_of y == flow) x xs h.0))
              (subst (λ gs. Receives p other (frames_of flow xs) gs rest.end) (sym given_is) rest.alone);
          end_is = rest.end_is;
        }

pub each_is_sent_alone : EachIsSentAlone
each_is_sent_alone p s t other xs flow sends_ended at = record { end = other; alone = sends_ended; end_is = at }
each_is_sent_alone p s t other xs flow (sends_on {x = x} {xs = rest_of} old new there puts more) at =
    by (λ o got. each_is_sent_alone p (slice_set s x.event.flow new) t o rest_of flow more got) (eqb_tells x.event.flow flow)
  where
    by : ((o : Senders) → slice_get o flow ≡ slice_get (slice_set s x.event.flow new) flow → IsSentAlone p o t rest_of flow) →
        ((x.event.flow == flow) ≡ true) × (x.event.flow ≡ flow) ⊎ ((x.event.flow == flow) ≡ false) × (x.event.flow ≡ flow → ⊥) → IsSentAlone p other t (x ∷ rest_of) flow
    by after (inl h) =
        let both = set_alike s other x.event.flow flow old new h.1 there at in
        let rest = after (slice_set other x.event.flow new) both.1 in
        record {
          end = rest.end;
          alone = subst (λ ys. Sends p other ys rest.end) (sym (kept (λ (y : Sent). y.event.flow == flow) x rest_of h.0)) (sends_on old new both.0 puts rest.alone);
          end_is = rest.end_is;
        }
    by after (inr h) =
        let rest = after other (at ∙ sym (get_set_other s x.event.flow flow new h.1)) in
        record {
          end = rest.end;
          alone = subst (λ ys. Sends p other ys rest.end) (sym (dropped (λ (y : Sent). y.event.flow == flow) x rest_of h.0)) rest.alone;
          end_is = rest.end_is;
        }

-- ---- joined

pub receives_join : (p : Accepting) (s t u : Contexts) (xs ys : List Frame) (found later : Found) → Receives p s xs found t → Receives p t ys later u → Receives p s (xs ++ ys) (found ++ later) u
receives_join p s t u xs ys found later receives_ended b = b
receives_join p s t u xs ys found later (receives_on {x = x} {xs = rest} old new here more all_is there gives on) b =
    receives_on old new here (more ++ later) (ap (λ z. z ++ later) all_is ∙ append_assoc (tell (flow_of x) here) more later) there gives
    (receives_join p (slice_set s (flow_of x) new) t u rest ys more later on b)

pub sends_join : (p : Accepting) (s t u : Senders) (xs ys : List Sent) → Sends p s xs t → Sends p t ys u → Sends p s (xs ++ ys) u
sends_join p s t u xs ys sends_ended b = b
sends_join p s t u xs ys (sends_on {x = x} {xs = rest} old new there puts on) b = sends_on old new there puts (sends_join p (slice_set s x.event.flow new) t u rest ys on b)

-- a frame of a flow that is told by its number
pub receives_at : (p : Accepting) (s t : Contexts) (x : Frame) (xs : List Frame) (all : Found) (k : ℕ) (old new : Entries) (here : List Given) (later : Found) → flow_of x ≡ k →
    all ≡ tell k here ++ later → slice_get s k ≡ Some old → Gives p old x here new → Receives p (slice_set s k new) xs later t → Receives p s (x ∷ xs) all t
receives_at p s t x xs all k old new here later e all_is there gives more =
    receives_on old new here later (all_is ∙ ap (λ n. tell n here ++ later) (sym e)) (ap (slice_get s) e ∙ there) gives (subst (λ n. Receives p (slice_set s n new) xs later t) (sym e) more)
