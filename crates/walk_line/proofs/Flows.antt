-- Lines: joined, heard, and flow by flow.
use Rattle.std.proofs.Common.{◌≡◌, ◌∙◌, refl, sym, ap, subst, ℕ, zero, suc, ◌+◌, Bool, true, false, List, [], ◌∷◌, length, map, ◌⊎◌, inl, inr}
use Rattle.std.specs.Prelude.{slice_get, slice_set, Some, None, filter, ◌==◌}
use Rattle.std.proofs.lemmas.List.{length-set}
use Rattle.std.proofs.lemmas.Bool.Decides.{eqb_tells}
use Rattle.sem_bits.specs.Octets.{Holds}
use Rattle.sem_bits.proofs.OctetsHeld.{octets_same}
use Rattle.sem_context.specs.Entries.{Entries, bits_at}
use Rattle.sem_filling.specs.declared.filling.Filling.{Filling}
use Rattle.sem_filling.specs.declared.filling.Item.{Item}
use Rattle.sem_filling.specs.Fillings.{packed}
use Rattle.sem_filling.specs.Entries.{next}
use Rattle.sem_filling.proofs.FitsSized.{one_value}
use Rattle.cert_accepted.specs.Accepted.{Accepting}
use Rattle.cert_candidates.proofs.BestOrder.{best_is_one}
use Rattle.walk_line.specs.Lines.{Contexts, IsBest, Act, Event, Packet, Puts, Line, Alone, sent, emptied, ended, puts_on, stopped, acts_on, octets_of, acts_of, packets_of}
use Rattle.walk_line.specs.Lines.Act.{Send, Reset}
use Rattle.walk_line.specs.Hearing.{Whole, packet, reset, nothing, waits, goes_on}
use Rattle.walk_line.specs.Laws.{item_sent, items_sent, LinesJoin, LineIsHeard, OneFlow, AloneOnce, SamePackets}

pub lines_join : LinesJoin
lines_join p s t u es fs outs more ended h = h
lines_join p s t u es fs outs more (puts_on {e = e} {es = later} {out = out} {outs = others} old new at puts line) h =
    puts_on old new at puts (lines_join p (slice_set s e.flow new) t u later fs others more line h)

-- ---- heard

-- what an act puts on the line is a whole packet or reset
whole_of : (p : Accepting) (s : Contexts) (flow : ℕ) (old new : Entries) (act : Act) (out : Packet) → slice_get s flow ≡ Some old → Puts p (length s) flow old act out new →
    Whole p s out.octets (item_sent flow act) (slice_set s flow new)
whole_of p s flow old new act out at (sent {it = it} f octets best held) =
    subst (λ i. Whole p s (flow ∷ octets) ((flow, i) ∷ []) (slice_set s flow (next old f))) best.has (packet flow old f at best.fits held)
whole_of p s flow old new act out at emptied = reset flow old at

pub line_is_heard : LineIsHeard
line_is_heard p s t es outs ended = waits nothing
line_is_heard p s t es outs (puts_on {e = e} {es = later} {out = out} {outs = others} old new at puts line) =
    goes_on out.octets (octets_of others) (item_sent e.flow e.act) (items_sent later) (slice_set s e.flow new) refl refl
    (whole_of p s e.flow old new e.act out at puts) (line_is_heard p (slice_set s e.flow new) t later others line)

-- ---- one flow

pub get_set_same : {A : Type 0} (xs : List A) (i : ℕ) (x y : A) → slice_get xs i ≡ Some x → slice_get (slice_set xs i y) i ≡ Some y
get_set_same [] i x y e = absurd (cc)
get_set_same (z ∷ xs) zero x y e = refl
get_set_same (z ∷ xs) (suc i) x y e = get_set_same xs i x y e

pub get_set_other : {A : Type 0} (xs : List A) (i j : ℕ) (y : A) → (i ≡ j → ⊥) → slice_get (slice_set xs i y) j ≡ slice_get xs j
get_set_other [] i j y n = refl
get_set_other (z ∷ xs) zero zero y n = absurd (n refl)
get_set_other (z ∷ xs) zero (suc j) y n = refl
get_set_other (z ∷ xs) (suc i) zero y n = refl
get_set_other (z ∷ xs) (suc i) (suc j) y n = get_set_other xs i j y (λ e. n (ap suc e))

-- what an act puts on the line is its flow's
flow_is : {p : Accepting} {flows flow : ℕ} {old new : Entries} {act : Act} {out : Packet} → Puts p flows flow old act out new → out.flow ≡ flow
flow_is (sent f octets best held) = refl
flow_is emptied = refl

kept : {A : Type 0} (test : A → Bool) (x : A) (xs : List A) → test x ≡ true → filter test (x ∷ xs) ≡ x ∷ filter test xs
kept test x xs e = rw e refl

dropped : {A : Type 0} (test : A → Bool) (x : A) (xs : List A) → test x ≡ false → filter test (x ∷ xs) ≡ filter test xs
dropped test x xs e = rw e refl

alone_by : (p : Accepting) (flows : ℕ) (s t : Contexts) (es : List Event) (outs : List Packet) (flow : ℕ) (ctx : Entries) → length s ≡ flows → Line p s es outs t → slice_get s flow ≡ Some ctx →
    (end : Entries) × (slice_get t flow ≡ Some end) × Alone p flows flow ctx (acts_of flow es) (packets_of flow outs) end
alone_by p flows s t es outs flow ctx n ended at = (ctx, at, stopped)
alone_by p flows s t es outs flow ctx n (puts_on {e = e} {es = later} {out = out} {outs = others} old new there puts line) at =
    by (λ c got. alone_by p flows (slice_set s e.flow new) t later others flow c (length-set s e.flow new ∙ n) line got) (eqb_tells e.flow flow)
  where
    by : ((c : Entries) → slice_get (slice_set s e.flow new) flow ≡ Some c → (end : Entries) × (slice_get t flow ≡ Some end) × Alone p flows flow c (acts_of flow later) (packets_of flow others) end) →
        ((e.flow == flow) ≡ true) × (e.flow ≡ flow) ⊎ ((e.flow == flow) ≡ false) × (e.flow ≡ flow → ⊥) →
        (end : Entries) × (slice_get t flow ≡ Some end) × Alone p flows flow ctx (acts_of flow (e ∷ later)) (packets_of flow (out ∷ others)) end
    by after (inl h) =
        let same_ctx : old ≡ ctx = one_value _ old ctx there (ap (slice_get s) h.1 ∙ at) in
        let got : slice_get (slice_set s e.flow new) flow ≡ Some new = ap (slice_get (slice_set s e.flow new)) (sym h.1) ∙ get_set_same s e.flow old new there in
        let rest = after new got in
        let puts_here : Puts p flows flow ctx e.act out new =
        subst (λ c. Puts p flows flow c e.act out new) same_ctx (subst (λ k. Puts p flows k old e.act out new) h.1 (subst (λ k. Puts p k e.flow old e.act out new) n puts)) in
        let out_test : (out.flow == flow) ≡ true = ap (λ k. k == flow) (flow_is puts) ∙ h.0 in
        let acts : acts_of flow (e ∷ later) ≡ e.act ∷ acts_of flow later = ap (map (λ x. x.act)) (kept (λ x. x.flow == flow) e later h.0) in
        let packets : packets_of flow (out ∷ others) ≡ out ∷ packets_of flow others = kept (λ x. x.flow == flow) out others out_test in
        (rest.0, rest.1, subst (λ a. Alone p flows flow ctx a (packets_of flow (out ∷ others)) rest.0) (sym acts) (subst (λ o. Alone p flows flow ctx (e.act ∷ acts_of flow later) o rest.0) (sym packets) (acts_on new puts_here rest.2)))
    by after (inr h) =
        let got : slice_get (slice_set s e.flow new) flow ≡ Some ctx = get_set_other s e.flow flow new h.1 ∙ at in
        let rest = after ctx got in
        let out_test : (out.flow == flow) ≡ false = ap (λ k. k == flow) (flow_is puts) ∙ h.0 in
        let acts : acts_of flow (e ∷ later) ≡ acts_of flow later = ap (map (λ x. x.act)) (dropped (λ x. x.flow == flow) e later h.0) in
        let packets : packets_of flow (out ∷ others) ≡ packets_of flow others = dropped (λ x. x.flow == flow) out others out_test in
        (rest.0, rest.1, subst (λ a. Alone p flows flow ctx a (packets_of flow (out ∷ others)) rest.0) (sym acts) (subst (λ o. Alone p flows flow ctx (acts_of flow later) o rest.0) (sym packets) rest.2))

pub one_flow : OneFlow
one_flow p s t es outs flow ctx line at = let r = alone_by p (length s) s t es outs flow ctx refl line at in record { end = r.0; end_is = r.1; alone = r.2 }

-- ---- once

record SentParts (p : Accepting) (flow : ℕ) (ctx : Entries) (act : Act) (out : Packet) (new : Entries) : Type 0 where
  it : Item
  filling : Filling
  octets : List ℕ
  best : IsBest p ctx it filling
  held : Holds octets (packed filling)
  act_is : act ≡ Send it
  out_is : out ≡ record { flow = flow; octets = flow ∷ octets; filling = Some filling }
  new_is : new ≡ next ctx filling

record EmptiedParts (flows flow : ℕ) (act : Act) (out : Packet) (new : Entries) : Type 0 where
  act_is : act ≡ Reset
  out_is : out ≡ record { flow = flow; octets = (flows + flow) ∷ []; filling = None }
  new_is : new ≡ []

puts_parts : {p : Accepting} {flows flow : ℕ} {old new : Entries} {act : Act} {out : Packet} → Puts p flows flow old act out new → SentParts p flow old act out new ⊎ EmptiedParts flows flow act out new
puts_parts (sent {it = it} f octets best held) = inl (record { it = it; filling = f; octets = octets; best = best; held = held; act_is = refl; out_is = refl; new_is = refl })
puts_parts emptied = inr (record { act_is = refl; out_is = refl; new_is = refl })

puts_once : (p : Accepting) (flows flow : ℕ) (ctx new other : Entries) (act : Act) (out alike : Packet) → Puts p flows flow ctx act out new → Puts p flows flow ctx act alike other → (out ≡ alike) × (new ≡ other)
puts_once p flows flow ctx new other act out alike a b = by (puts_parts a) (puts_parts b)
  where
    by : SentParts p flow ctx act out new ⊎ EmptiedParts flows flow act out new → SentParts p flow ctx act alike other ⊎ EmptiedParts flows flow act alike other → (out ≡ alike) × (new ≡ other)
    by (inl m) (inl n) =
        let sends : Send m.it ≡ Send n.it = sym m.act_is ∙ n.act_is in
        let its : m.it ≡ n.it = cc in
        let best_n : IsBest p ctx m.it n.filling = subst (λ i. IsBest p ctx i n.filling) (sym its) n.best in
        let one : m.filling ≡ n.filling = best_is_one p.profile.methods p.certificate.methods p.profile.top (bits_at ctx) m.it m.filling n.filling m.best best_n in
        let held_n : Holds n.octets (packed m.filling) = subst (λ f. Holds n.octets (packed f)) (sym one) n.held in
        let octets : m.octets ≡ n.octets = octets_same m.octets n.octets (packed m.filling) m.held held_n in
        let outs : out ≡ alike = m.out_is ∙ (λ i. record { flow = flow; octets = flow ∷ octets i; filling = Some (one i) }) ∙ sym n.out_is in
        let news : new ≡ other = m.new_is ∙ ap (next ctx) one ∙ sym n.new_is in
        (outs, news)
    by (inl m) (inr n) = let never : Send m.it ≡ Reset = sym m.act_is ∙ n.act_is in absurd (cc)
    by (inr m) (inl n) = let never : Send n.it ≡ Reset = sym n.act_is ∙ m.act_is in absurd (cc)
    by (inr m) (inr n) = (m.out_is ∙ sym n.out_is, m.new_is ∙ sym n.new_is)

once_by : (p : Accepting) (flows flow : ℕ) (ctx end other : Entries) (acts alike : List Act) (outs others : List Packet) → acts ≡ alike →
    Alone p flows flow ctx acts outs end → Alone p flows flow ctx alike others other → (outs ≡ others) × (end ≡ other)
once_by p flows flow ctx end other acts alike outs others e stopped stopped = (refl, refl)
once_by p flows flow ctx end other acts alike outs others e stopped (acts_on new puts more) = absurd (cc)
once_by p flows flow ctx end other acts alike outs others e (acts_on new puts more) stopped = absurd (cc)
once_by p flows flow ctx end other acts alike outs others e (acts_on {act = a} {acts = as1} {out = o} {outs = os1} new puts more) (acts_on {act = b} {acts = as2} {out = q} {outs = os2} new' puts' more') =
    let heads : a ≡ b = cc in
    let tails : as1 ≡ as2 = cc in
    let puts_too : Puts p flows flow ctx a q new' = subst (λ z. Puts p flows flow ctx z q new') (sym heads) puts' in
    let one = puts_once p flows flow ctx new new' a o q puts puts_too in
    let more_too : Alone p flows flow new as2 os2 other = subst (λ z. Alone p flows flow z as2 os2 other) (sym one.1) more' in
    let rest = once_by p flows flow new end other as1 as2 os1 os2 tails more more_too in
    ((λ i. one.0 i ∷ rest.0 i), rest.1)

pub alone_once : AloneOnce
alone_once p flows flow ctx end other acts outs others a b = once_by p flows flow ctx end other acts acts outs others refl a b

pub same_packets : SamePackets
same_packets p s t s' t' es fs outs others flow ctx n at at' line line' e =
    let one = alone_by p (length s) s t es outs flow ctx refl line at in
    let two = alone_by p (length s) s' t' fs others flow ctx (sym n) line' at' in
    let same = once_by p (length s) flow ctx one.0 two.0 (acts_of flow es) (acts_of flow fs) (packets_of flow outs) (packets_of flow others) e one.2 two.2 in
    (same.0, one.1 ∙ ap Some same.1 ∙ sym two.1)
