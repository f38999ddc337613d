-- What a sender puts on the line.
use Rattle.std.proofs.Common.{◌≡◌, ◌∙◌, refl, sym, ap, subst, ℕ, ◌<◌, ◌≤◌, List, [], ◌∷◌, ◌++◌, length, get_or, arith, ◌⊎◌, inl, inr}
use Rattle.std.specs.Prelude.{slice_get, slice_set, Some, None, Result, Ok, Err, OnOk, IfErr}
use Rattle.std.proofs.lemmas.Bool.{cases_lt}
use Rattle.std.proofs.lemmas.Option.{slice_get-get_or}
use Rattle.sem_context.specs.Entries.{Entries}
use Rattle.sem_filling.specs.declared.filling.Item.{Item}
use Rattle.sem_filling.specs.Entries.{next}
use Rattle.cert_accepted.specs.Accepted.{Accepting}
use Rattle.walk_engine.specs.declared.writer.PackFault.{PackFault}
use Rattle.walk_engine.specs.declared.writer.PackFault.TheVariants.{Flow, OutOfMemory}
use Rattle.walk_engine.specs.Writing as writing
use Rattle.walk_line.specs.Lines.{Contexts, flow_limit, no_entries, reset_octet, Event, Puts, Line, sent, emptied, ended, puts_on}
use Rattle.walk_line.specs.Lines.Act.{Send, Reset}
use Rattle.walk_line.specs.States.{Sending, IsNotPut, IsPut, blamed, no_flow}
use Rattle.walk_line.specs.Steps.{IsPacked}
use Rattle.walk_line.specs.declared.flow.LineVersion.{LineVersion}
use Rattle.walk_line.specs.declared.flow.LineVersion.TheVariants.{One, Two}

pub on_ok_more : {A E P Q : Type 0} (r : Result A E) → (P → Q) → OnOk r P → OnOk r Q
on_ok_more (Ok x) f h = f h
on_ok_more (Err e) f h = tt

pub if_err_more : {A E : Type 0} (P Q : E → Type 0) (r : Result A E) → ((e : E) → P e → Q e) → IfErr r P → IfErr r Q
if_err_more P Q (Ok x) f h = tt
if_err_more P Q (Err e) f h = f e h

pub reset_put : (p : Accepting) (s : Contexts) (old : Sending) (flow place flows : ℕ) (new : Entries) → length s ≡ flows → flow < flows → place ≡ flow → new ≡ [] → record { accepted = p; contexts = s } ≡ old →
    IsPut old (record { accepted = p; contexts = slice_set s place new }) (record { flow = flow; act = Reset }) (reset_octet flows flow ∷ [])
reset_put p s old flow place flows new n below same empty is =
    subst (λ o. IsPut o (record { accepted = p; contexts = slice_set s place new }) (record { flow = flow; act = Reset }) (reset_octet flows flow ∷ [])) is
    (subst (λ x. IsPut (record { accepted = p; contexts = s }) (record { accepted = p; contexts = slice_set s place x }) (record { flow = flow; act = Reset }) (reset_octet flows flow ∷ [])) (sym empty)
    (subst (λ k. IsPut (record { accepted = p; contexts = s }) (record { accepted = p; contexts = slice_set s k [] }) (record { flow = flow; act = Reset }) (reset_octet flows flow ∷ [])) (sym same) base))
  where
    there : slice_get s flow ≡ Some (get_or s flow [])
    there = slice_get-get_or s flow [] (omega arith)

    puts : Puts p (length s) flow (get_or s flow []) Reset (record { flow = flow; octets = reset_octet flows flow ∷ []; filling = None }) []
    puts = subst (λ k. Puts p (length s) flow (get_or s flow []) Reset (record { flow = flow; octets = reset_octet k flow ∷ []; filling = None }) []) n emptied

    base : IsPut (record { accepted = p; contexts = s }) (record { accepted = p; contexts = slice_set s flow [] }) (record { flow = flow; act = Reset }) (reset_octet flows flow ∷ [])
    base = record {
      accepted_is = refl;
      packet = record { flow = flow; octets = reset_octet flows flow ∷ []; filling = None };
      line = puts_on (get_or s flow []) [] there puts ended;
      octets_are = refl;
    }

pub send_put : (p : Accepting) (s : Contexts) (old : Sending) (flow place number : ℕ) (ctx new : Entries) (it : Item) (before after : List ℕ) → slice_get s place ≡ Some ctx → place ≡ flow → number ≡ flow →
    record { accepted = p; contexts = s } ≡ old → IsPacked p ctx new number it before after →
    (octets : List ℕ) × IsPut old (record { accepted = p; contexts = slice_set s place new }) (record { flow = flow; act = Send it }) octets × (after ≡ before ++ octets)
send_put p s old flow place number ctx new it before after there same numbered is packed =
    (flow ∷ packed.octets, put, packed.after_is ∙ ap (λ k. before ++ k ∷ packed.octets) numbered)
  where
    at_flow : slice_get s flow ≡ Some ctx
    at_flow = ap (slice_get s) (sym same) ∙ there

    line : Line p s (record { flow = flow; act = Send it } ∷ []) (record { flow = flow; octets = flow ∷ packed.octets; filling = Some packed.filling } ∷ []) (slice_set s place new)
    line =
        subst (λ t. Line p s (record { flow = flow; act = Send it } ∷ []) (record { flow = flow; octets = flow ∷ packed.octets; filling = Some packed.filling } ∷ []) t)
        (ap (λ k. slice_set s k (next ctx packed.filling)) (sym same) ∙ ap (slice_set s place) (sym packed.next_is))
        (puts_on ctx (next ctx packed.filling) at_flow (sent packed.filling packed.octets packed.best packed.holds) ended)

    put : IsPut old (record { accepted = p; contexts = slice_set s place new }) (record { flow = flow; act = Send it }) (flow ∷ packed.octets)
    put =
        subst (λ o. IsPut o (record { accepted = p; contexts = slice_set s place new }) (record { flow = flow; act = Send it }) (flow ∷ packed.octets)) is
        (record { accepted_is = refl; packet = record { flow = flow; octets = flow ∷ packed.octets; filling = Some packed.filling }; line = line; octets_are = refl })

pub send_fault : (p : Accepting) (s : Contexts) (old : Sending) (flow place : ℕ) (ctx : Entries) (it : Item) (e : PackFault) → slice_get s place ≡ Some ctx → place ≡ flow → record { accepted = p; contexts = s } ≡ old →
    writing.Blames e p ctx it → IsNotPut old (record { flow = flow; act = Send it }) e
send_fault p s old flow place ctx it e there same is says =
    subst (λ o. IsNotPut o (record { flow = flow; act = Send it }) e) is (blamed ctx (ap (slice_get s) (sym same) ∙ there) says)

-- a reset of a flow that is there is refused only where memory is out
pub reset_fault : (p : Accepting) (s : Contexts) (old : Sending) (flow : ℕ) → flow < length s → record { accepted = p; contexts = s } ≡ old → IsNotPut old (record { flow = flow; act = Reset }) OutOfMemory
reset_fault p s old flow below is =
    subst (λ o. IsNotPut o (record { flow = flow; act = Reset }) OutOfMemory) is (blamed (get_or s flow []) (slice_get-get_or s flow [] below) refl)

-- there is no such flow
pub none_there : (old : Sending) (e : Event) → ¬ (e.flow < length old.contexts) → IsNotPut old e Flow
none_there old e n = by (cases_lt e.flow (length old.contexts))
  where
    by : (e.flow < length old.contexts) ⊎ (length old.contexts ≤ e.flow) → IsNotPut old e Flow
    by (inl l) = absurd (n l)
    by (inr l) = no_flow l

-- a new line has no more flows than there may be
pub few_entries : (v : LineVersion) → length (no_entries v) ≤ flow_limit
few_entries One = omega arith
few_entries Two = omega arith
