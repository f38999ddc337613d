-- What a sender puts out.
use Rattle.std.proofs.Common.{◌≡◌, ◌∙◌, refl, sym, ap, subst, ℕ, zero, suc, ◌+◌, ◌<◌, ◌≤◌, ◌^◌, List, [], ◌∷◌, ◌++◌, length, map, take, arith, append_assoc}
use Rattle.std.specs.Prelude.{slice_get, slice_set, get_or, option_map, Option, Some, None, Result, Ok, Err, OnOk, IfErr}
use Rattle.std.proofs.lemmas.Option.{slice_get-get_or, slice_get-map}
use Rattle.std.proofs.lemmas.List.{append-nil, map-append, take-map, take_more}
use Rattle.sem_bits.specs.Octets.{Holds}
use Rattle.sem_profile.specs.declared.profile.MethodSizes.{MethodSizes}
use Rattle.sem_filling.specs.declared.filling.Filling.{Filling, out-Filling}
use Rattle.sem_filling.specs.declared.filling.Item.{Item}
use Rattle.sem_filling.specs.Fillings.{packed}
use Rattle.sem_filling.proofs.Bounding.{lie-in-bounds, placed}
use Rattle.sem_filling.proofs.FitsInverted.{parts}
use Rattle.sem_profile.specs.Resolved.{IsSound}
use Rattle.sem_context.specs.Entries.{Entries, bits_at}
use Rattle.cert_accepted.specs.Accepted.{Accepting, IsAccepted}
use Rattle.walk_engine.specs.declared.search.Packed.{Packed}
use Rattle.walk_engine.specs.Reading.{Fitting}
use Rattle.walk_line.specs.Lines.{Act, Event}
use Rattle.walk_line.specs.Runs.{event_of}
use Rattle.walk_line.specs.declared.runs.Event.{Event as LineEvent}
use Rattle.walk_line.specs.Lines.Act.{Send, Reset}
use Rattle.walk_robust.specs.Sending.{Sending}
use Rattle.walk_robust.specs.Answers.{IsEmptied, IsSent}
use Rattle.walk_robust.specs.declared.sender.RobustFault.{RobustFault}
use Rattle.walk_frames.specs.Frames.{Frame, packet, reset, frame_octets, octets_of, flow_limit, AreCut, AreFrames, IsFrame}
use Rattle.walk_frames.specs.Sending.{Puts, Senders, Sends, Sent, emptied, events_sent, frames_sent, new_senders, owns, sends_on, sent}
use Rattle.walk_frames.specs.Sending.Sends.{ended as sends_ended}
use Rattle.walk_frames.specs.States.{BlamesAct, IsNotPut, IsPut, PutsOut, PutsReset, Sender}
use Rattle.walk_frames.specs.Runs.{ArePut, BlamesEvents, BlamesRun, IsReceived, IsRun, IsStopped}
use Rattle.walk_frames.specs.declared.runs.RunFault.{RunFault}
use Rattle.walk_frames.specs.Receiving.{Receives, new_contexts}
use Rattle.walk_frames.specs.Laws.{all_sent}
use Rattle.walk_frames.proofs.Cuttings.{both, frames_are_cut, octets_joined}
use Rattle.walk_frames.proofs.Givings.{sent_is_given}
use Rattle.walk_frames.proofs.Hearings.{sends_join}

-- ---- one packet

-- what fits has no more packed bits than an accepted profile lets the top have
pub packed_short : (p : Accepting) → IsAccepted p → IsSound p.profile → (ctx : Entries) (f : Filling) → Fitting p ctx f → length (packed f) ≤ 8192
packed_short p accepted sound ctx f fit =
    let q = parts fit in
    let here = placed p.profile.methods p.profile.sizes sound.sized p.profile.top (out-Filling f).format q.format q.is_format in
    let lie = (lie-in-bounds p.profile.methods p.profile.sizes sound.sized (bits_at ctx) p.profile.top [] [] f fit here.whole here.sizes here.whole_at here.sizes_at).1 in
    let limit = accepted.valid.short here.whole here.whole_at in
    let most = lie.compressed_lies.most in
    omega (arith, most, limit)

pub sent_short : (p : Accepting) → IsAccepted p → IsSound p.profile → (old new : Sending) (it : Item) (packed_now : Packed) → IsSent p old it packed_now new → length packed_now.packed ≤ 8192
sent_short p accepted sound old new it pk is = subst (λ b. length b ≤ 8192) (sym is.best.packed_is) (packed_short p accepted sound old.own pk.filling is.best.best.fits)

pub packet_put : (p : Accepting) (flow : ℕ) (old new : Sending) (it : Item) (pk : Packed) (before after body : List ℕ) → flow < flow_limit → IsSent p old it pk new → Holds body pk.packed → length body < 2 ^ 15 →
    after ≡ before ++ frame_octets (packet flow body) → PutsOut p flow old (Send it) new before after
packet_put p flow old new it pk before after body small is holds few after_is = record { frame = packet flow body; is_frame = (small, few); puts = sent pk body is holds; after_is = after_is }

pub reset_put : (p : Accepting) (flow : ℕ) (old new : Sending) (before after : List ℕ) → flow < flow_limit → PutsReset flow old new before after → PutsOut p flow old Reset new before after
reset_put p flow old new before after small h = record { frame = reset flow; is_frame = small; puts = emptied h.emptied; after_is = h.after_is }

-- ---- of one of the flows

pub on_ok_more : {A E P Q : Type 0} (r : Result A E) → (P → Q) → OnOk r P → OnOk r Q
on_ok_more (Ok x) f h = f h
on_ok_more (Err e) f h = tt

pub if_err_more : {A E : Type 0} (P Q : E → Type 0) (r : Result A E) → ((e : E) → P e → Q e) → IfErr r P → IfErr r Q
if_err_more P Q (Ok x) f h = tt
if_err_more P Q (Err e) f h = f e h

pub is_put : (p : Accepting) (s : Senders) (old : Sender) (flow place own : ℕ) (from to : Sending) (act : Act) (before after : List ℕ) → slice_get s place ≡ Some from → place ≡ flow → own ≡ flow → record { accepted = p; senders = s } ≡ old →
    PutsOut p own from act to before after → (octets : List ℕ) × IsPut old (record { accepted = p; senders = slice_set s place to }) (record { flow = flow; act = act }) octets × (after ≡ before ++ octets)
is_put p s old flow place own from to act before after there same own_is is h = (
  frame_octets h.frame,
  subst (λ o. IsPut o (record { accepted = p; senders = slice_set s place to }) (record { flow = flow; act = act }) (frame_octets h.frame)) is (record {
    accepted_is = refl;
    frame = h.frame;
    is_frame = h.is_frame;
    sends = subst (λ k. Sends p s (record { event = record { flow = flow; act = act }; frame = h.frame } ∷ []) (slice_set s k to)) (sym same)
        (sends_on from to (ap (slice_get s) (sym same) ∙ there) (subst (λ k. Puts p k from act h.frame to) own_is h.puts) sends_ended);
    octets_are = refl;
  }),
  h.after_is,
)

pub not_put : (p : Accepting) (s : Senders) (old : Sender) (flow place : ℕ) (from : Sending) (act : Act) (e : RobustFault) → slice_get s place ≡ Some from → place ≡ flow → record { accepted = p; senders = s } ≡ old →
    BlamesAct e p from act → IsNotPut old (record { flow = flow; act = act }) e
not_put p s old flow place from act e there same is blames =
    subst (λ o. IsNotPut o (record { flow = flow; act = act }) e) is (record { sender = from; sender_is = ap (slice_get s) (sym same) ∙ there; blames = blames })

-- ---- many events

pub none_put : (s : Sender) (before : List ℕ) → ArePut s s [] before before
none_put s before = record { accepted_is = refl; sent = []; events_are = refl; sends = sends_ended; are_frames = tt; after_is = sym (append-nil before) }

pub one_put : (s mid new : Sender) (es : List Event) (e : Event) (before here after octets : List ℕ) → ArePut s mid es before here → IsPut mid new e octets → after ≡ here ++ octets → ArePut s new (es ++ e ∷ []) before after
one_put s mid new es e before here after octets a b after_is =
    let x : Sent = record { event = e; frame = b.frame } in
    let frames : frames_sent (a.sent ++ x ∷ []) ≡ frames_sent a.sent ++ b.frame ∷ [] = map-append (λ (y : Sent). y.frame) a.sent (x ∷ []) in
    record {
      accepted_is = b.accepted_is ∙ a.accepted_is;
      sent = a.sent ++ x ∷ [];
      events_are = map-append (λ (y : Sent). y.event) a.sent (x ∷ []) ∙ ap (λ z. z ++ e ∷ []) a.events_are;
      sends = sends_join s.accepted s.senders mid.senders new.senders a.sent (x ∷ []) a.sends (subst (λ p. Sends p mid.senders (x ∷ []) new.senders) a.accepted_is b.sends);
      are_frames = subst AreFrames (sym frames) (both (frames_sent a.sent) (b.frame ∷ []) a.are_frames (b.is_frame, tt));
      after_is = after_is ∙ ap (λ z. here ++ z) (b.octets_are ∙ sym (append-nil (frame_octets b.frame))) ∙ ap (λ z. z ++ octets_of (b.frame ∷ [])) a.after_is
          ∙ append_assoc before (octets_of (frames_sent a.sent)) (octets_of (b.frame ∷ [])) ∙ ap (λ z. before ++ z) (sym (octets_joined (frames_sent a.sent) (b.frame ∷ [])) ∙ ap octets_of (sym frames));
    }

pub is_stopped : (s mid : Sender) (es : List Event) (n : ℕ) (e : Event) (before here : List ℕ) (fault : RobustFault) → ArePut s mid (take n es) before here → slice_get es n ≡ Some e → IsNotPut mid e fault → IsStopped s es n fault
is_stopped s mid es n e before here fault a at h = record {
  sent = a.sent;
  senders = mid.senders;
  at = e;
  events_are = a.events_are;
  sends = a.sends;
  event_is = at;
  not_put = subst (λ p. IsNotPut (record { accepted = p; senders = mid.senders }) e fault) a.accepted_is h;
}

-- ---- the events of a run

pub event_put : (s mid new : Sender) (events : List LineEvent) (i : ℕ) (e : LineEvent) (before here after octets : List ℕ) → i < length events → e ≡ get_or events i e → ArePut s mid (map event_of (take i events)) before here →
    IsPut mid new (event_of e) octets → after ≡ here ++ octets → ArePut s new (map event_of (take (i + 1) events)) before after
event_put s mid new events i e before here after octets within is so_far one after_is =
    let grown : take (i + 1) events ≡ take i events ++ e ∷ [] = take_more events i e within ∙ ap (λ x. take i events ++ x ∷ []) (sym is) in
    let es : map event_of (take i events) ++ event_of e ∷ [] ≡ map event_of (take (i + 1) events) = sym (map-append event_of (take i events) (e ∷ [])) ∙ ap (map event_of) (sym grown) in
    subst (λ z. ArePut s new z before after) es (one_put s mid new (map event_of (take i events)) (event_of e) before here after octets so_far one after_is)

pub event_stopped : (s mid : Sender) (events : List LineEvent) (i : ℕ) (e : LineEvent) (before here : List ℕ) (fault : RobustFault) → i < length events → e ≡ get_or events i e → ArePut s mid (map event_of (take i events)) before here →
    IsNotPut mid (event_of e) fault → IsStopped s (map event_of events) i fault
event_stopped s mid events i e before here fault within is so_far h =
    is_stopped s mid (map event_of events) i (event_of e) before here fault (subst (λ z. ArePut s mid z before here) (sym (take-map event_of i events)) so_far)
    (slice_get-map event_of events i ∙ ap (option_map event_of) (slice_get-get_or events i e within ∙ ap Some (sym is))) h

-- ---- a whole run

pub is_run : (p : Accepting) (lost : ℕ) (s new : Sender) (es : List Event) (before octets : List ℕ) → s ≡ record { accepted = p; senders = new_senders lost } → ArePut s new es before octets → before ≡ [] → IsRun p lost es octets
is_run p lost s new es before octets starts put none = record {
  sent = put.sent;
  senders = new.senders;
  events_are = put.events_are;
  sends = subst (λ (z : Sender). Sends z.accepted z.senders put.sent new.senders) starts put.sends;
  are_frames = put.are_frames;
  octets_are = put.after_is ∙ ap (λ z. z ++ octets_of (frames_sent put.sent)) none;
}

pub is_given : (p : Accepting) (lost : ℕ) (es : List Event) (octets : List ℕ) → IsRun p lost es octets → IsReceived p octets (all_sent es) None
is_given p lost es octets run = record {
  frames = frames_sent run.sent;
  rest = [];
  contexts = owns run.senders;
  cut = subst (λ z. AreCut z (frames_sent run.sent) []) (sym run.octets_are) (frames_are_cut (frames_sent run.sent) run.are_frames);
  received = subst (λ z. Receives p new_contexts (frames_sent run.sent) (all_sent z) (owns run.senders)) run.events_are (sent_is_given p (new_senders lost) run.senders run.sent run.sends);
  end_is = refl;
}

pub run_stopped : (p : Accepting) (lost : ℕ) (s : Sender) (es : List Event) (e : RunFault) → s ≡ record { accepted = p; senders = new_senders lost } → BlamesEvents e s es → BlamesRun e p lost es
run_stopped p lost s es e starts h = subst (λ z. BlamesEvents e z es) starts h
