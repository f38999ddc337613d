-- What is printed for a line of frames.
use Rattle.std.proofs.Common.{◌≡◌, ℕ, ◌+◌, ◌<◌, ◌≤◌, List, [], ◌∷◌, ◌++◌, length, drop, get_or, refl, ap, sym, ◌∙◌, subst, append_assoc}
use Rattle.std.specs.Prelude.{Option, Some, None, Result, Ok, Err, IfOk, OnOk, String, codes, decimal, map, string_bytes}
use Rattle.std.specs.Global.{Global}
use Rattle.std.specs.declared.alloc.AllocError.{AllocError}
use Rattle.std.proofs.lemmas.List.{append-nil, drop_more, drop_all}
use Rattle.hex.specs.Hex.{encode_lower}
use Rattle.sem_profile.specs.declared.profile.Method.{Method}
use Rattle.sem_filling.specs.declared.filling.Item.{Item}
use Rattle.cert_accepted.specs.Accepted.{Accepting}
use Rattle.walk_robust.specs.declared.sender.RobustFault.{RobustFault}
use Rattle.walk_line.specs.Laws.{items_sent}
use Rattle.walk_line.specs.Runs.{event_of}
use Rattle.walk_line.specs.declared.runs.Event.{Event}
use Rattle.walk_frames.specs.Receiving.{Found}
use Rattle.walk_frames.specs.Sending.{new_senders}
use Rattle.walk_frames.specs.Runs.{BlamesRun, IsReceived, IsRun}
use Rattle.walk_frames.specs.declared.fault.FrameFault.{FrameFault}
use Rattle.walk_frames.specs.declared.given.Given.{Given}
use Rattle.walk_frames.specs.declared.given.Given.TheVariants as given
use Rattle.walk_frames.specs.declared.given.PacketRefusal.{PacketRefusal}
use Rattle.walk_frames.specs.declared.runs.RunFault.{RunFault}
use Rattle.walk_frames.specs.declared.runs.RunFault.TheVariants as run
use Rattle.tool_input.specs.declared.status.Answer.{Answer}
use Rattle.tool_input.specs.declared.status.Status.{Status}
use Rattle.tool_input.specs.declared.status.Status.TheVariants as status
use Rattle.tool_input.specs.Inputs.{IsBadLine}
use Rattle.tool_input.specs.OneLine.{IsLine}
use Rattle.tool_input.specs.Refusals.{Holds, IsRefusal}
use Rattle.tool_input.proofs.RefusalsHeld.{refusal_is}
use Rattle.tool_run.specs.Events.{IsEvent}
use Rattle.tool_run.specs.Line.{IsItemPushed, IsSentPrinted, bad_event_text}
use Rattle.tool_run.specs.Frames.{AnsweredEvents, AreGivenLines, IsFrameFault, IsGivenPushed, IsPushed, IsRefusedBy, PrintsReceived, PrintsSent, all_received, all_sent, bad_event, one_refused, refusal_words, up_to_fault}

-- events of which a line can't be read
pub bad_events_are : (lost : ℕ) (a : Accepting) (input : List ℕ) (n m : ℕ) (written : List ℕ) (r : Result Answer AllocError) → IsBadLine IsEvent input n → written ≡ bad_event_text m → m ≡ n → IfOk r (IsRefusal written)
    → IfOk r (Holds (AnsweredEvents lost a input))
bad_events_are lost a input n m written r is same number g =
    refusal_is (AnsweredEvents lost a input) (bad_event_text n) written r (bad_event n is) (same ∙ ap bad_event_text number) g

-- an event that is refused
pub refused_event_is : (lost : ℕ) (a : Accepting) (events : List Event) (fault : RunFault) (n k : ℕ) (e : RobustFault) (text written : List ℕ) (r : Result Answer AllocError) → BlamesRun fault a lost (map event_of events) → fault ≡ run.Refused n e
    → IsFrameFault e k text → IsLine text → k ≡ n + 1 → written ≡ text → IfOk r (IsRefusal written) → IfOk r (Holds (PrintsSent lost a events))
refused_event_is lost a events fault n k e text written r blames is spelled whole number shown g =
    let stopped = subst (λ (x : RunFault). BlamesRun x a lost (map event_of events)) is blames in
    refusal_is (PrintsSent lost a events) text written r (one_refused n e text stopped (subst (λ m. IsFrameFault e m text) number spelled) whole) shown g

-- what is sent
pub sent_printed : (lost : ℕ) (a : Accepting) (events : List Event) (octets : List ℕ) (r : Result Answer AllocError) → IsRun a lost (map event_of events) octets → IfOk r (IsSentPrinted octets (items_sent (map event_of events))) → IfOk r (Holds (PrintsSent lost a events))
sent_printed lost a events octets (Err e) is h = tt
sent_printed lost a events octets (Ok answer) is h =
    let out : (encode_lower octets ++ 10 ∷ []) ++ h.pushed.lines ≡ encode_lower octets ++ 10 ∷ h.pushed.lines = append_assoc (encode_lower octets) (10 ∷ []) h.pushed.lines in
    let whole : PrintsSent lost a events status.Done (string_bytes answer.output) = subst (PrintsSent lost a events status.Done) (sym (h.pushed.after_is ∙ out)) (all_sent octets h.pushed.lines is h.pushed.spelled) in
    subst (λ (s : Status). PrintsSent lost a events s (string_bytes answer.output)) (sym h.status_is) whole

-- what is received
pub received_lines : (a : Accepting) (octets start : List ℕ) (found : Found) (fault : Option FrameFault) (output : String Global) → IsReceived a octets found fault → fault ≡ None → start ≡ [] → IsPushed a.profile.methods found start (string_bytes output)
    → PrintsReceived a octets status.Done (string_bytes output)
received_lines a octets start found fault output is none empty h =
    let here : IsReceived a octets found None = subst (IsReceived a octets found) none is in
    subst (PrintsReceived a octets status.Done) (sym (h.after_is ∙ ap (λ s. s ++ h.lines) empty)) (all_received found h.lines here h.spelled)

pub fault_lines : (a : Accepting) (octets start lines : List ℕ) (found : Found) (fault : Option FrameFault) (e : FrameFault) (r : Result Answer AllocError) → IsReceived a octets found fault → fault ≡ Some e → start ≡ [] → IsPushed a.profile.methods found start lines
    → IfOk r (IsRefusedBy lines e) → IfOk r (Holds (PrintsReceived a octets))
fault_lines a octets start lines found fault e (Err x) is some empty h g = tt
fault_lines a octets start lines found fault e (Ok answer) is some empty h g =
    let here : IsReceived a octets found (Some e) = subst (IsReceived a octets found) some is in
    let out : string_bytes answer.output ≡ h.lines ++ g.line ++ 10 ∷ [] = g.output_is ∙ ap (λ l. l ++ g.line ++ 10 ∷ []) (h.after_is ∙ ap (λ s. s ++ h.lines) empty) in
    let whole : PrintsReceived a octets status.Refused (string_bytes answer.output) = subst (PrintsReceived a octets status.Refused) (sym out) (up_to_fault found h.lines e g.line here h.spelled g.spelled) in
    subst (λ (s : Status). PrintsReceived a octets s (string_bytes answer.output)) (sym g.status_is) whole

-- ---- one after the other

pub on_ok : {A E P Q : Type 0} (r : Result A E) → (P → Q) → OnOk r P → OnOk r Q
on_ok (Ok x) f h = f h
on_ok (Err e) f h = tt

pub item_given : (methods : List Method) (flow : ℕ) (g : Given) (it : Item) (before after : List ℕ) → g ≡ given.Item it → IsItemPushed flow it before after → IsGivenPushed methods flow g before after
item_given methods flow g it before after is h = subst (λ x. IsGivenPushed methods flow x before after) (sym is) (record { words = h.words; spelled = h.spelled; after_is = h.after_is })

pub refusal_given : (methods : List Method) (flow : ℕ) (g : Given) (why : PacketRefusal) (before after : List ℕ) → g ≡ given.Refused why → after ≡ before ++ decimal flow ++ codes " " ++ refusal_words methods why ++ 10 ∷ [] → IsGivenPushed methods flow g before after
refusal_given methods flow g why before after is h = subst (λ x. IsGivenPushed methods flow x before after) (sym is) (record { words = refusal_words methods why; spelled = refl; after_is = h })

-- the lines so far and those of what is left are all lines
pub record PushedSoFar (methods : List Method) (found left : Found) (before here : List ℕ) : Type 0 where
  pub lines : List ℕ
  pub here_is : here ≡ before ++ lines
  pub more : (rest : List ℕ) → AreGivenLines methods left rest → AreGivenLines methods found (lines ++ rest)

pub none_pushed : (methods : List Method) (found : Found) (before : List ℕ) → PushedSoFar methods found found before before
none_pushed methods found before = record { lines = []; here_is = sym (append-nil before); more = λ rest h. h }

joined : (d s w rest : List ℕ) → (d ++ s ++ w ++ 10 ∷ []) ++ rest ≡ d ++ s ++ w ++ 10 ∷ rest
joined d s w rest = simp append_assoc

moved : (a b d s w t : List ℕ) → a ++ b ++ d ++ s ++ w ++ t ≡ a ++ (b ++ (d ++ s ++ w ++ t))
moved a b d s w t = simp append_assoc

next_pushed : (methods : List Method) (found left later : Found) (flow : ℕ) (g : Given) (before here after : List ℕ) → left ≡ (flow, g) ∷ later → PushedSoFar methods found left before here → IsGivenPushed methods flow g here after → PushedSoFar methods found later before after
next_pushed methods found left later flow g before here after begins so_far one =
    let line : List ℕ = decimal flow ++ codes " " ++ one.words ++ 10 ∷ [] in
    record {
      lines = so_far.lines ++ line;
      here_is = one.after_is ∙ ap (λ h. h ++ decimal flow ++ codes " " ++ one.words ++ 10 ∷ []) so_far.here_is ∙ moved before so_far.lines (decimal flow) (codes " ") one.words (10 ∷ []);
      more = λ rest h.
          let shown : AreGivenLines methods ((flow, g) ∷ later) (line ++ rest) = (one.words, rest, one.spelled, h, joined (decimal flow) (codes " ") one.words rest) in
          let here : AreGivenLines methods left (line ++ rest) = subst (λ xs. AreGivenLines methods xs (line ++ rest)) (sym begins) shown in
          subst (AreGivenLines methods found) (sym (append_assoc so_far.lines line rest)) (so_far.more (line ++ rest) here);
    }

pub one_pushed : (methods : List Method) (found : Found) (i : ℕ) (d x : ℕ × Given) (before here after : List ℕ) → i < length found → x ≡ get_or found i d → PushedSoFar methods found (drop i found) before here → IsGivenPushed methods x.0 x.1 here after
    → PushedSoFar methods found (drop (i + 1) found) before after
one_pushed methods found i d x before here after inside at so_far one =
    next_pushed methods found (drop i found) (drop (i + 1) found) x.0 x.1 before here after (drop_more found i d inside ∙ ap (λ y. y ∷ drop (i + 1) found) (sym at)) so_far one

pub all_pushed : (methods : List Method) (found : Found) (i : ℕ) (before after : List ℕ) → length found ≤ i → PushedSoFar methods found (drop i found) before after → IsPushed methods found before after
all_pushed methods found i before after whole so_far =
    let empty : AreGivenLines methods (drop i found) [] = subst (λ xs. AreGivenLines methods xs []) (sym (drop_all i found whole)) refl in
    record { lines = so_far.lines; spelled = subst (AreGivenLines methods found) (append-nil so_far.lines) (so_far.more [] empty); after_is = so_far.here_is }
