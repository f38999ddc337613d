-- What is printed for a line of flows.
use Rattle.std.proofs.Common.{◌≡◌, ℕ, ◌+◌, ◌<◌, ◌≤◌, List, [], ◌∷◌, ◌++◌, length, drop, get_or, refl, ap, sym, ◌∙◌, subst, append_assoc}
use Rattle.std.specs.Prelude.{Option, Some, None, Result, Ok, Err, IfOk, String, codes, decimal, map, string_bytes}
use Rattle.std.specs.Global.{Global}
use Rattle.std.specs.declared.alloc.AllocError.{AllocError}
use Rattle.std.proofs.lemmas.List.{append-nil, drop_more, drop_all}
use Rattle.hex.specs.Hex.{encode_lower}
use Rattle.sem_filling.specs.declared.filling.Item.{Item}
use Rattle.cert_accepted.specs.Accepted.{Accepting}
use Rattle.walk_engine.specs.declared.writer.PackFault.{PackFault}
use Rattle.walk_line.specs.Lines.{no_entries}
use Rattle.walk_line.specs.Hearing.{Found}
use Rattle.walk_line.specs.Laws.{items_sent}
use Rattle.walk_line.specs.Runs.{BlamesRun, IsReceived, IsRun, event_of}
use Rattle.walk_line.specs.declared.fault.LineFault.{LineFault}
use Rattle.walk_line.specs.declared.flow.LineVersion.{LineVersion}
use Rattle.walk_line.specs.declared.runs.Event.{Event}
use Rattle.walk_line.specs.declared.runs.Event.TheVariants as event
use Rattle.walk_line.specs.declared.runs.RunFault.{RunFault}
use Rattle.walk_line.specs.declared.runs.RunFault.TheVariants as run
use Rattle.tool_input.specs.declared.status.Answer.{Answer}
use Rattle.tool_input.specs.declared.status.Status.{Status}
use Rattle.tool_input.specs.declared.status.Status.TheVariants as status
use Rattle.tool_run.specs.Events.{IsEvent}
use Rattle.tool_input.specs.Inputs.{IsBadLine}
use Rattle.tool_run.specs.Line.{AnsweredEvents, AreItemLines, IsEventFault, IsItemPushed, IsPushed, IsRefusedBy, IsSentPrinted, PrintsReceived, PrintsSent, all_received, all_sent, bad_event, bad_event_text, one_refused, up_to_fault}
use Rattle.tool_input.specs.OneLine.{IsLine}
use Rattle.tool_input.specs.Refusals.{Holds, IsRefusal}
use Rattle.tool_input.proofs.RefusalsHeld.{refusal_is}

-- events of which a line can't be read
pub bad_events_are : (v : LineVersion) (a : Accepting) (input : List ℕ) (n m : ℕ) (written : List ℕ) (r : Result Answer AllocError) → IsBadLine IsEvent input n → written ≡ bad_event_text m → m ≡ n → IfOk r (IsRefusal written)
    → IfOk r (Holds (AnsweredEvents v a input))
bad_events_are v a input n m written r is same number g =
    refusal_is (AnsweredEvents v a input) (bad_event_text n) written r (bad_event n is) (same ∙ ap bad_event_text number) g

-- an event that is refused
pub refused_event_is : (v : LineVersion) (a : Accepting) (events : List Event) (fault : RunFault) (n k : ℕ) (e : PackFault) (text written : List ℕ) (r : Result Answer AllocError) → BlamesRun fault a (no_entries v) (map event_of events) → fault ≡ run.Refused n e
    → IsEventFault e k text → IsLine text → k ≡ n + 1 → written ≡ text → IfOk r (IsRefusal written) → IfOk r (Holds (PrintsSent v a events))
refused_event_is v a events fault n k e text written r blames is spelled whole number shown g =
    let stopped = subst (λ (x : RunFault). BlamesRun x a (no_entries v) (map event_of events)) is blames in
    refusal_is (PrintsSent v a events) text written r (one_refused n e text stopped (subst (λ m. IsEventFault e m text) number spelled) whole) shown g

-- what is sent
pub sent_printed : (v : LineVersion) (a : Accepting) (events : List Event) (octets : List ℕ) (found : Found) (r : Result Answer AllocError) → IsRun a v (map event_of events) octets found → IfOk r (IsSentPrinted octets found) → IfOk r (Holds (PrintsSent v a events))
sent_printed v a events octets found (Err e) is h = tt
sent_printed v a events octets found (Ok answer) is h =
    let out : (encode_lower octets ++ 10 ∷ []) ++ h.pushed.lines ≡ encode_lower octets ++ 10 ∷ h.pushed.lines = append_assoc (encode_lower octets) (10 ∷ []) h.pushed.lines in
    let whole : PrintsSent v a events status.Done (string_bytes answer.output) = subst (PrintsSent v a events status.Done) (sym (h.pushed.after_is ∙ out)) (all_sent octets found h.pushed.lines is h.pushed.spelled) in
    subst (λ (s : Status). PrintsSent v a events s (string_bytes answer.output)) (sym h.status_is) whole

pub sent_lines : (octets : List ℕ) (found items : Found) (start : List ℕ) (output : String Global) → items ≡ found → start ≡ encode_lower octets ++ 10 ∷ [] → IsPushed items start (string_bytes output)
    → IsSentPrinted octets found record { status = status.Done; output = output }
sent_lines octets found items start output same is h = record {
  status_is = refl;
  pushed = subst (λ f. IsPushed f (encode_lower octets ++ 10 ∷ []) (string_bytes output)) same (subst (λ s. IsPushed items s (string_bytes output)) is h);
}

-- what is received
pub received_lines : (v : LineVersion) (a : Accepting) (octets start : List ℕ) (found shown : Found) (fault : Option LineFault) (output : String Global) → IsReceived a v octets found fault → fault ≡ None → shown ≡ found → start ≡ [] → IsPushed shown start (string_bytes output)
    → PrintsReceived v a octets status.Done (string_bytes output)
received_lines v a octets start found shown fault output is none same empty h =
    let here : IsReceived a v octets found None = subst (IsReceived a v octets found) none is in
    let lines : AreItemLines found h.lines = subst (λ f. AreItemLines f h.lines) same h.spelled in
    subst (PrintsReceived v a octets status.Done) (sym (h.after_is ∙ ap (λ s. s ++ h.lines) empty)) (all_received found h.lines here lines)

pub fault_lines : (v : LineVersion) (a : Accepting) (octets start lines : List ℕ) (found shown : Found) (fault : Option LineFault) (e : LineFault) (r : Result Answer AllocError) → IsReceived a v octets found fault → fault ≡ Some e → shown ≡ found → start ≡ [] → IsPushed shown start lines
    → IfOk r (IsRefusedBy lines e) → IfOk r (Holds (PrintsReceived v a octets))
fault_lines v a octets start lines found shown fault e (Err x) is some same empty h g = tt
fault_lines v a octets start lines found shown fault e (Ok answer) is some same empty h g =
    let here : IsReceived a v octets found (Some e) = subst (IsReceived a v octets found) some is in
    let spelled : AreItemLines found h.lines = subst (λ f. AreItemLines f h.lines) same h.spelled in
    let out : string_bytes answer.output ≡ h.lines ++ g.line ++ 10 ∷ [] = g.output_is ∙ ap (λ l. l ++ g.line ++ 10 ∷ []) (h.after_is ∙ ap (λ s. s ++ h.lines) empty) in
    let whole : PrintsReceived v a octets status.Refused (string_bytes answer.output) = subst (PrintsReceived v a octets status.Refused) (sym out) (up_to_fault found h.lines e g.line here spelled g.spelled) in
    subst (λ (s : Status). PrintsReceived v a octets s (string_bytes answer.output)) (sym g.status_is) whole

-- ---- items, one after the other

-- the lines so far and those of the items that are left are all lines
pub record PushedSoFar (found left : Found) (before here : List ℕ) : Type 0 where
  pub lines : List ℕ
  pub here_is : here ≡ before ++ lines
  pub more : (rest : List ℕ) → AreItemLines left rest → AreItemLines found (lines ++ rest)

pub none_pushed : (found : Found) (before : List ℕ) → PushedSoFar found found before before
none_pushed found before = record { lines = []; here_is = sym (append-nil before); more = λ rest h. h }

joined : (d s w rest : List ℕ) → (d ++ s ++ w ++ 10 ∷ []) ++ rest ≡ d ++ s ++ w ++ 10 ∷ rest
joined d s w rest = simp append_assoc

moved : (a b d s w t : List ℕ) → a ++ b ++ d ++ s ++ w ++ t ≡ a ++ (b ++ (d ++ s ++ w ++ t))
moved a b d s w t = simp append_assoc

-- one more
next_pushed : (found left later : Found) (flow : ℕ) (it : Item) (before here after : List ℕ) → left ≡ (flow, it) ∷ later → PushedSoFar found left before here → IsItemPushed flow it here after → PushedSoFar found later before after
next_pushed found left later flow it before here after begins so_far one =
    let line : List ℕ = decimal flow ++ codes " " ++ one.words ++ 10 ∷ [] in
    record {
      lines = so_far.lines ++ line;
      here_is = one.after_is ∙ ap (λ h. h ++ decimal flow ++ codes " " ++ one.words ++ 10 ∷ []) so_far.here_is ∙ moved before so_far.lines (decimal flow) (codes " ") one.words (10 ∷ []);
      more = λ rest h.
          let shown : AreItemLines ((flow, it) ∷ later) (line ++ rest) = (one.words, rest, one.spelled, h, joined (decimal flow) (codes " ") one.words rest) in
          let here : AreItemLines left (line ++ rest) = subst (λ xs. AreItemLines xs (line ++ rest)) (sym begins) shown in
          subst (AreItemLines found) (sym (append_assoc so_far.lines line rest)) (so_far.more (line ++ rest) here);
    }

-- nothing is left
ended_pushed : (found left : Found) (before after : List ℕ) → left ≡ [] → PushedSoFar found left before after → IsPushed found before after
ended_pushed found left before after none so_far =
    let empty : AreItemLines left [] = subst (λ xs. AreItemLines xs []) (sym none) refl in
    record { lines = so_far.lines; spelled = subst (AreItemLines found) (append-nil so_far.lines) (so_far.more [] empty); after_is = so_far.here_is }

pub one_pushed : (found : Found) (i : ℕ) (d x : ℕ × Item) (before here after : List ℕ) → i < length found → x ≡ get_or found i d → PushedSoFar found (drop i found) before here → IsItemPushed x.0 x.1 here after → PushedSoFar found (drop (i + 1) found) before after
one_pushed found i d x before here after inside at so_far one =
    next_pushed found (drop i found) (drop (i + 1) found) x.0 x.1 before here after (drop_more found i d inside ∙ ap (λ y. y ∷ drop (i + 1) found) (sym at)) so_far one

pub all_pushed : (found : Found) (i : ℕ) (before after : List ℕ) → length found ≤ i → PushedSoFar found (drop i found) before after → IsPushed found before after
all_pushed found i before after whole so_far = ended_pushed found (drop i found) before after (drop_all i found whole) so_far

-- ---- items that were sent, event after event

abbrev pub sent_from : List Event → ℕ → Found
sent_from events i = items_sent (map event_of (drop i events))

begins_by : (events : List Event) (i : ℕ) (d e : Event) → i < length events → e ≡ get_or events i d → sent_from events i ≡ items_sent (event_of e ∷ map event_of (drop (i + 1) events))
begins_by events i d e inside at = ap (λ es. items_sent (map event_of es)) (drop_more events i d inside ∙ ap (λ y. y ∷ drop (i + 1) events) (sym at))

pub send_pushed : (events : List Event) (i : ℕ) (d e : Event) (flow : ℕ) (it : Item) (before here after : List ℕ) → i < length events → e ≡ get_or events i d → e ≡ event.Send flow it →
    PushedSoFar (items_sent (map event_of events)) (sent_from events i) before here → IsItemPushed flow it here after → PushedSoFar (items_sent (map event_of events)) (sent_from events (i + 1)) before after
send_pushed events i d e flow it before here after inside at is so_far one =
    next_pushed (items_sent (map event_of events)) (sent_from events i) (sent_from events (i + 1)) flow it before here after
    (begins_by events i d e inside at ∙ ap (λ x. items_sent (event_of x ∷ map event_of (drop (i + 1) events))) is) so_far one

pub reset_passed : (events : List Event) (i : ℕ) (d e : Event) (flow : ℕ) (before here : List ℕ) → i < length events → e ≡ get_or events i d → e ≡ event.Reset flow →
    PushedSoFar (items_sent (map event_of events)) (sent_from events i) before here → PushedSoFar (items_sent (map event_of events)) (sent_from events (i + 1)) before here
reset_passed events i d e flow before here inside at is so_far =
    subst (λ left. PushedSoFar (items_sent (map event_of events)) left before here)
    (begins_by events i d e inside at ∙ ap (λ x. items_sent (event_of x ∷ map event_of (drop (i + 1) events))) is) so_far

pub all_sent_pushed : (events : List Event) (i : ℕ) (before after : List ℕ) → length events ≤ i → PushedSoFar (items_sent (map event_of events)) (sent_from events i) before after → IsPushed (items_sent (map event_of events)) before after
all_sent_pushed events i before after whole so_far =
    ended_pushed (items_sent (map event_of events)) (sent_from events i) before after (ap (λ es. items_sent (map event_of es)) (drop_all i events whole)) so_far
