-- What is sent is heard.
use Rattle.std.proofs.Common.{◌≡◌, ◌∙◌, refl, sym, ap, subst, ℕ, ◌+◌, ◌<◌, List, [], ◌∷◌, ◌++◌, length, take, map, get_or, arith, append_assoc}
use Rattle.std.specs.Prelude.{Option, None, Some, slice_get}
use Rattle.std.specs.List.{flat_map}
use Rattle.std.specs.Option.{option_map}
use Rattle.std.proofs.lemmas.List.{take_more, take-map, map-append, append-nil}
use Rattle.std.proofs.lemmas.Option.{slice_get-map, slice_get-get_or}
use Rattle.std.proofs.lemmas.Grind.{flat_map-append}
use Rattle.cert_accepted.specs.Accepted.{Accepting}
use Rattle.walk_engine.specs.declared.writer.PackFault.{PackFault}
use Rattle.walk_engine.specs.declared.writer.PackFault.TheVariants.{HeaderLength, Asked, NoFormat, Flow}
use Rattle.walk_engine.specs.declared.writer.PackFault.TheVariants as pack
use Rattle.walk_line.specs.Lines.{Contexts, Packet, Line, ended, octets_of, no_entries}
use Rattle.walk_line.specs.Lines as lines
use Rattle.walk_line.specs.Hearing.{Found, Heard}
use Rattle.walk_line.specs.Laws.{items_sent}
use Rattle.walk_line.specs.States.{Sending, Receiving, BlamesAct, IsNotPut, IsPut, blamed, no_flow, Hears, Stops, Fails, FailsIn, end_of}
use Rattle.walk_line.specs.declared.fault.LineFault.{LineFault}
use Rattle.walk_line.specs.declared.fault.LineFault.TheVariants.{FlowOctet, RefusedPacket, Padding, Ended, OutOfMemory}
use Rattle.walk_line.proofs.Flows.{lines_join, line_is_heard}
use Rattle.walk_line.proofs.Hearings.{heard_join}
use Rattle.walk_line.specs.declared.runs.Event.{Event}
use Rattle.walk_line.specs.declared.flow.LineVersion.{LineVersion}
use Rattle.walk_line.specs.Runs.{event_of, ArePut, IsStopped, BlamesRun, run_fault, IsRun, IsWhole, IsCut, IsReceived}

pub none_put : (s : Sending) (before : List ℕ) → ArePut s s [] before before
none_put s before = record { accepted_is = refl; packets = []; line = ended; after_is = sym (append-nil before) }

pub one_put : (old mid new : Sending) (events : List Event) (i : ℕ) (e : Event) (before here after octets : List ℕ) → i < length events → e ≡ get_or events i e → ArePut old mid (map event_of (take i events)) before here →
    IsPut mid new (event_of e) octets → after ≡ here ++ octets → ArePut old new (map event_of (take (i + 1) events)) before after
one_put old mid new events i e before here after octets within is puts one after_is =
    let grown : take (i + 1) events ≡ take i events ++ e ∷ [] = take_more events i e within ∙ ap (λ x. take i events ++ x ∷ []) (sym is) in
    let es : map event_of (take i events) ++ event_of e ∷ [] ≡ map event_of (take (i + 1) events) = sym (map-append event_of (take i events) (e ∷ [])) ∙ ap (map event_of) (sym grown) in
    let one_line : Line old.accepted mid.contexts (event_of e ∷ []) (one.packet ∷ []) new.contexts = subst (λ p. Line p mid.contexts (event_of e ∷ []) (one.packet ∷ []) new.contexts) puts.accepted_is one.line in
    let joined : Line old.accepted old.contexts (map event_of (take i events) ++ event_of e ∷ []) (puts.packets ++ one.packet ∷ []) new.contexts =
    lines_join old.accepted old.contexts mid.contexts new.contexts (map event_of (take i events)) (event_of e ∷ []) puts.packets (one.packet ∷ []) puts.line one_line in
    let out : octets_of (puts.packets ++ one.packet ∷ []) ≡ octets_of puts.packets ++ octets = flat_map-append (λ o. o.octets) puts.packets (one.packet ∷ []) ∙ ap (λ z. octets_of puts.packets ++ z) (append-nil one.packet.octets ∙ sym one.octets_are) in
    record {
      accepted_is = one.accepted_is ∙ puts.accepted_is;
      packets = puts.packets ++ one.packet ∷ [];
      line = subst (λ l. Line old.accepted old.contexts l (puts.packets ++ one.packet ∷ []) new.contexts) es joined;
      after_is = after_is ∙ ap (λ z. z ++ octets) puts.after_is ∙ append_assoc before (octets_of puts.packets) octets ∙ ap (λ z. before ++ z) (sym out);
    }

-- a new sender's octets are those of a line
pub is_run : (v : LineVersion) (p : Accepting) (old new : Sending) (es : List lines.Event) (before octets : List ℕ) → old ≡ record { accepted = p; contexts = no_entries v } → ArePut old new es before octets → before ≡ [] →
    IsRun p v es octets (items_sent es)
is_run v p old new es before octets starts puts none =
    record { packets = puts.packets; contexts = new.contexts; line = subst (λ (o : Sending). Line o.accepted o.contexts es puts.packets new.contexts) starts puts.line; octets_are = puts.after_is ∙ ap (λ b. b ++ octets_of puts.packets) none; items_are = refl }

-- a new receiver hears of them what was sent, with nothing left
pub is_heard : (v : LineVersion) (p : Accepting) (es : List lines.Event) (octets : List ℕ) → IsRun p v es octets (items_sent es) → IsReceived p v octets (items_sent es) None
is_heard v p es octets run =
    let whole : Heard p (no_entries v) (octets_of run.packets) (items_sent es) [] run.contexts = line_is_heard p (no_entries v) run.contexts es run.packets run.line in
    record { rest = []; contexts = run.contexts; heard = subst (λ o. Heard p (no_entries v) o (items_sent es) [] run.contexts) (sym run.octets_are) whole; end_is = refl }

-- ---- the event that is refused

not_put_at : (p : Accepting) (mid : Sending) (e : lines.Event) (fault : PackFault) → mid.accepted ≡ p → IsNotPut mid e fault → IsNotPut (record { accepted = p; contexts = mid.contexts }) e fault
not_put_at p mid e _ same (no_flow beyond) = no_flow beyond
not_put_at p mid e fault same (blamed ctx at says) = blamed ctx at (subst (λ a. BlamesAct fault a ctx e.act) same says)

stopped_at : (old mid : Sending) (es : List lines.Event) (n : ℕ) (e : lines.Event) (before here : List ℕ) (fault : PackFault) → ArePut old mid (take n es) before here → slice_get es n ≡ Some e → IsNotPut mid e fault →
    IsStopped old.accepted old.contexts es n fault
stopped_at old mid es n e before here fault puts event_is u =
    record { packets = puts.packets; contexts = mid.contexts; at = e; line = puts.line; event_is = event_is; not_put = not_put_at old.accepted mid e fault puts.accepted_is u }

pub blames_run : (old mid : Sending) (events : List Event) (i : ℕ) (e : Event) (before here : List ℕ) (fault : PackFault) → i < length events → e ≡ get_or events i e → ArePut old mid (map event_of (take i events)) before here →
    IsNotPut mid (event_of e) fault → BlamesRun (run_fault i fault) old.accepted old.contexts (map event_of events)
blames_run old mid events i e before here fault within is puts u = by fault u
  where
    so_far : ArePut old mid (take i (map event_of events)) before here
    so_far = subst (λ l. ArePut old mid l before here) (sym (take-map event_of i events)) puts

    at : slice_get (map event_of events) i ≡ Some (event_of e)
    at = slice_get-map event_of events i ∙ ap (option_map event_of) (slice_get-get_or events i e within ∙ ap Some (sym is))

    stopped : (f : PackFault) → IsNotPut mid (event_of e) f → IsStopped old.accepted old.contexts (map event_of events) i f
    stopped f v = stopped_at old mid (map event_of events) i (event_of e) before here f so_far at v

    by : (f : PackFault) → IsNotPut mid (event_of e) f → BlamesRun (run_fault i f) old.accepted old.contexts (map event_of events)
    by HeaderLength v = stopped HeaderLength v
    by (Asked name) v = stopped (Asked name) v
    by NoFormat v = stopped NoFormat v
    by Flow v = stopped Flow v
    by pack.OutOfMemory v = tt

-- ---- all octets

whole_is : (v : LineVersion) (p : Accepting) (octets : List ℕ) (items : Found) (e : LineFault) (w : IsWhole p v octets items (Some e)) (rest : List ℕ) → end_of None rest ≡ Some e → IsReceived p v octets items (Some e)
whole_is v p octets items Ended w rest h = w
whole_is v p octets items FlowOctet w [] h = absurd (cc)
whole_is v p octets items FlowOctet w (x ∷ rest) h = absurd (cc)
whole_is v p octets items RefusedPacket w [] h = absurd (cc)
whole_is v p octets items RefusedPacket w (x ∷ rest) h = absurd (cc)
whole_is v p octets items Padding w [] h = absurd (cc)
whole_is v p octets items Padding w (x ∷ rest) h = absurd (cc)
whole_is v p octets items OutOfMemory w [] h = absurd (cc)
whole_is v p octets items OutOfMemory w (x ∷ rest) h = absurd (cc)

-- a new receiver heard all octets
pub received : (v : LineVersion) (p : Accepting) (from to : Receiving) (octets : List ℕ) (before found items : Found) (o : Option LineFault) → from ≡ record { accepted = p; contexts = no_entries v; rest = []; fault = None } → Hears from to octets found →
    before ≡ [] → items ≡ before ++ found → end_of to.fault to.rest ≡ o → IsReceived p v octets items o
received v p from to octets before found items o begins hears none items_are ends = by o ends
  where
    heard : Heard p (no_entries v) octets items to.rest to.contexts
    heard =
        subst (λ f. Heard p (no_entries v) octets f to.rest to.contexts) (sym (items_are ∙ ap (λ z. z ++ found) none))
        (subst (λ (r : Receiving). Heard r.accepted r.contexts (r.rest ++ octets) found to.rest to.contexts) begins hears.heard)

    by : (q : Option LineFault) → end_of to.fault to.rest ≡ q → IsReceived p v octets items q
    by None h = record { rest = to.rest; contexts = to.contexts; heard = heard; end_is = ap (λ f. end_of f to.rest) (sym hears.well) ∙ h }
    by (Some e) h =
        let end_is : end_of None to.rest ≡ Some e = ap (λ f. end_of f to.rest) (sym hears.well) ∙ h in
        whole_is v p octets items e (record { rest = to.rest; contexts = to.contexts; heard = heard; end_is = end_is }) to.rest end_is

cut_is : (v : LineVersion) (p : Accepting) (octets : List ℕ) (found items : Found) (e : LineFault) → Stops (record { accepted = p; contexts = no_entries v; rest = []; fault = None }) octets found e → items ≡ found → IsCut p v octets items e
cut_is v p octets found items e s same = record {
  before = s.before;
  octet = s.octet;
  after = s.after;
  rest = s.rest;
  contexts = s.contexts;
  octets_are = s.piece_is;
  heard = subst (λ f. Heard p (no_entries v) s.before f s.rest s.contexts) (sym same) s.heard;
  blames = s.blames;
}

-- a fault came
pub received_fault : (v : LineVersion) (p : Accepting) (from to : Receiving) (octets : List ℕ) (before found items : Found) (e : LineFault) → from ≡ record { accepted = p; contexts = no_entries v; rest = []; fault = None } → Fails from to octets found e →
    before ≡ [] → items ≡ before ++ found → (e ≡ OutOfMemory → ⊥) → IsReceived p v octets items (Some e)
received_fault v p from to octets before found items e begins fails none items_are other = by e stops other
  where
    stops : Stops (record { accepted = p; contexts = no_entries v; rest = []; fault = None }) octets found e
    stops = subst (λ (r : Receiving). FailsIn r.fault r octets found e) begins fails.comes

    same : items ≡ found
    same = items_are ∙ ap (λ z. z ++ found) none

    by : (x : LineFault) → Stops (record { accepted = p; contexts = no_entries v; rest = []; fault = None }) octets found x → (x ≡ OutOfMemory → ⊥) → IsReceived p v octets items (Some x)
    by FlowOctet s n = cut_is v p octets found items FlowOctet s same
    by RefusedPacket s n = cut_is v p octets found items RefusedPacket s same
    by Padding s n = cut_is v p octets found items Padding s same
    by Ended s n = absurd s.blames
    by OutOfMemory s n = absurd (n refl)

-- ---- pieces

pub hears_join : (old mid new : Receiving) (piece more : List ℕ) (found later : Found) → Hears old mid piece found → Hears mid new more later → Hears old new (piece ++ more) (found ++ later)
hears_join old mid new piece more found later a b =
    let b_heard : Heard old.accepted mid.contexts (mid.rest ++ more) later new.rest new.contexts = subst (λ p. Heard p mid.contexts (mid.rest ++ more) later new.rest new.contexts) a.accepted_is b.heard in
    let joined : Heard old.accepted old.contexts ((old.rest ++ piece) ++ more) (found ++ later) new.rest new.contexts =
    heard_join old.accepted old.contexts mid.contexts new.contexts (old.rest ++ piece) more mid.rest new.rest found later a.heard b_heard in
    record {
      accepted_is = b.accepted_is ∙ a.accepted_is;
      well_before = a.well_before;
      well = b.well;
      heard = subst (λ o. Heard old.accepted old.contexts o (found ++ later) new.rest new.contexts) (append_assoc old.rest piece more) joined;
    }

-- so many pieces so far; before the first, nothing happened
pub data Fed (old : Receiving) (before : Found) : ℕ → List ℕ → Receiving → Found → Type 0 where
  not_yet : Fed old before 0 [] old before
  fed : {octets : List ℕ} {new : Receiving} {after : Found} (n : ℕ) (found : Found) → after ≡ before ++ found → Hears old new octets found → Fed old before (n + 1) octets new after

pub fed_more : (old mid new : Receiving) (n : ℕ) (octets piece : List ℕ) (before here after found : Found) → Fed old before n octets mid here → Hears mid new piece found → after ≡ here ++ found → Fed old before (n + 1) (octets ++ piece) new after
fed_more old mid new n octets piece before here after found not_yet h e = fed 0 found e h
fed_more old mid new n octets piece before here after found (fed m so_far here_is hears) h e =
    fed (m + 1) (so_far ++ found) (e ∙ ap (λ z. z ++ found) here_is ∙ append_assoc before so_far found) (hears_join old mid new octets piece so_far found hears h)

pub fed_parts : {old new : Receiving} {before after : Found} {n : ℕ} {octets : List ℕ} → Fed old before n octets new after → 0 < n → (found : Found) × (after ≡ before ++ found) × Hears old new octets found
fed_parts not_yet some = absurd (omega arith)
fed_parts (fed m found e h) some = (found, e, h)

pub taken_more : {X : Type 0} (f : X → List ℕ) (xs : List X) (i : ℕ) (x : X) → i < length xs → x ≡ get_or xs i x → flat_map f (take (i + 1) xs) ≡ flat_map f (take i xs) ++ f x
taken_more f xs i x within is =
    ap (flat_map f) (take_more xs i x within) ∙ flat_map-append f (take i xs) (get_or xs i x ∷ []) ∙ ap (λ z. flat_map f (take i xs) ++ z) (append-nil (f (get_or xs i x)) ∙ ap f (sym is))
