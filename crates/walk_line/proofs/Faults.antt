-- No fault comes in octets that are heard with nothing left.
use Rattle.std.proofs.Common.{◌≡◌, ◌∙◌, refl, sym, ap, subst, ℕ, ◌+◌, ◌*◌, ◌<◌, ◌≤◌, false, List, [], ◌∷◌, ◌++◌, length, replicate, arith, append_assoc, length-append, ◌⊎◌, inl, inr}
use Rattle.std.specs.Prelude.{slice_get, Some}
use Rattle.std.proofs.lemmas.List.{append_cancel_left}
use Rattle.std.proofs.lemmas.Option.{slice_get_within}
use Rattle.sem_bits.specs.Octets.{bits_of}
use Rattle.sem_bits.proofs.Octets.{length-bits_of}
use Rattle.sem_bits.proofs.OctetsHeld.{split_same}
use Rattle.sem_context.specs.Entries.{Entries, bits_at}
use Rattle.sem_filling.specs.Fillings.{packed}
use Rattle.sem_filling.specs.Fronts.{Det}
use Rattle.sem_filling.proofs.FitsSized.{one_value}
use Rattle.cert_accepted.specs.Accepted.{Accepting}
use Rattle.walk_engine.specs.Reading.{Fronts}
use Rattle.walk_line.specs.Lines.{Contexts}
use Rattle.walk_line.specs.Hearing.{Found, Whole, Heard, IsRefused, IsBadlyFilled, BlamesOctet, waits, goes_on}
use Rattle.walk_line.specs.Laws.{NoFault}
use Rattle.walk_line.specs.declared.fault.LineFault.{LineFault}
use Rattle.walk_line.specs.declared.fault.LineFault.TheVariants.{FlowOctet, RefusedPacket, Padding, Ended, OutOfMemory}
use Rattle.walk_line.proofs.HearingOctets.{bits_of-append, count_held, front_held}
use Rattle.walk_line.proofs.HearingCases.{PacketParts, ResetParts, whole_parts, whole_once}

-- the first octet of a whole packet or reset is below twice the number of flows
first_below : (p : Accepting) (s t : Contexts) (one x : List ℕ) (here : Found) (octet : ℕ) (after : List ℕ) → Whole p s one here t → one ++ x ≡ octet ∷ after → octet < length s + length s
first_below p s t one x here octet after w e = by (whole_parts w)
  where
    by : PacketParts p s one here t ⊎ ResetParts s one here t → octet < length s + length s
    by (inl m) =
        let whole : m.flow ∷ (m.octets ++ x) ≡ octet ∷ after = ap (λ z. z ++ x) (sym m.one_is) ∙ e in
        let flows : m.flow ≡ octet = cc in
        let within : m.flow < length s = slice_get_within s m.flow m.ctx m.context_is in
        omega arith
    by (inr m) =
        let whole : (length s + m.flow) ∷ x ≡ octet ∷ after = ap (λ z. z ++ x) (sym m.one_is) ∙ e in
        let flows : length s + m.flow ≡ octet = cc in
        let within : m.flow < length s = slice_get_within s m.flow m.ctx m.context_is in
        omega arith

-- a whole packet at the front, where a packet of that flow began
begun_packet : (p : Accepting) (s t : Contexts) (one x : List ℕ) (here : Found) (flow : ℕ) (octets after : List ℕ) (ctx : Entries) → Whole p s one here t → one ++ x ≡ flow ∷ (octets ++ after) → slice_get s flow ≡ Some ctx →
    (m : PacketParts p s one here t) × (m.octets ++ x ≡ octets ++ after) × (m.ctx ≡ ctx)
begun_packet p s t one x here flow octets after ctx w e at = by (whole_parts w)
  where
    by : PacketParts p s one here t ⊎ ResetParts s one here t → (m : PacketParts p s one here t) × (m.octets ++ x ≡ octets ++ after) × (m.ctx ≡ ctx)
    by (inl m) =
        let whole : m.flow ∷ (m.octets ++ x) ≡ flow ∷ (octets ++ after) = ap (λ z. z ++ x) (sym m.one_is) ∙ e in
        let flows : m.flow ≡ flow = cc in
        let rest : m.octets ++ x ≡ octets ++ after = cc in
        let contexts : m.ctx ≡ ctx = one_value _ m.ctx ctx m.context_is (ap (slice_get s) flows ∙ at) in
        (m, rest, contexts)
    by (inr m) =
        let whole : (length s + m.flow) ∷ x ≡ flow ∷ (octets ++ after) = ap (λ z. z ++ x) (sym m.one_is) ∙ e in
        let flows : length s + m.flow ≡ flow = cc in
        let within : flow < length s = slice_get_within s flow ctx at in
        absurd (omega arith)

never_refused : (p : Accepting) (s t : Contexts) (one x begun after : List ℕ) (here : Found) → Whole p s one here t → one ++ x ≡ begun ++ after → IsRefused p s begun → ⊥
never_refused p s t one x begun after here w e r =
    let whole : one ++ x ≡ r.flow ∷ (r.octets ++ after) = e ∙ ap (λ z. z ++ after) r.begun_is in
    let m = begun_packet p s t one x here r.flow r.octets after r.ctx w whole r.context_is in
    let front : Fronts p m.0.ctx (bits_of (m.0.octets ++ x)) m.0.filling = front_held p (bits_at m.0.ctx) m.0.filling m.0.octets x m.0.fits m.0.holds in
    let at_ctx : Fronts p r.ctx (bits_of (m.0.octets ++ x)) m.0.filling = subst (λ c. Fronts p c (bits_of (m.0.octets ++ x)) m.0.filling) m.2 front in
    let there : Fronts p r.ctx (bits_of r.octets ++ bits_of after) m.0.filling =
    subst (λ b. Fronts p r.ctx b m.0.filling) (ap bits_of m.1 ∙ bits_of-append r.octets after) at_ctx in
    r.none (bits_of after) m.0.filling there

never_badly_filled : (p : Accepting) → Det p.profile.methods p.profile.top → (s t : Contexts) (one x begun after : List ℕ) (here : Found) → Whole p s one here t → one ++ x ≡ begun ++ after → IsBadlyFilled p s begun → ⊥
never_badly_filled p d s t one x begun after here w e r =
    let whole : one ++ x ≡ r.flow ∷ (r.octets ++ after) = e ∙ ap (λ z. z ++ after) r.begun_is in
    let m = begun_packet p s t one x here r.flow r.octets after r.ctx w whole r.context_is in
    let front : Fronts p m.0.ctx (bits_of (m.0.octets ++ x)) m.0.filling = front_held p (bits_at m.0.ctx) m.0.filling m.0.octets x m.0.fits m.0.holds in
    let at_ctx : Fronts p r.ctx (bits_of (m.0.octets ++ x)) m.0.filling = subst (λ c. Fronts p c (bits_of (m.0.octets ++ x)) m.0.filling) m.2 front in
    let there : Fronts p r.ctx (bits_of r.octets ++ bits_of after) m.0.filling =
    subst (λ b. Fronts p r.ctx b m.0.filling) (ap bits_of m.1 ∙ bits_of-append r.octets after) at_ctx in
    let other : Fronts p r.ctx (bits_of r.octets ++ bits_of after) r.filling =
    record { fits = r.fits; rest = r.padding ++ bits_of after; front = ap (λ b. b ++ bits_of after) r.bits_are ∙ append_assoc (packed r.filling) r.padding (bits_of after) } in
    let same : m.0.filling ≡ r.filling = d (bits_at r.ctx) (bits_of r.octets ++ bits_of after) m.0.filling r.filling there other in
    let long : length (packed m.0.filling) ≡ length (packed r.filling) = ap (λ f. length (packed f)) same in
    let count_m : 8 * length m.0.octets ≡ length (packed m.0.filling) + m.0.holds.padding = count_held m.0.octets (packed m.0.filling) m.0.holds in
    let count_r : 8 * length r.octets ≡ length (packed r.filling) + length r.padding = sym (length-bits_of r.octets) ∙ ap length r.bits_are ∙ length-append (packed r.filling) r.padding in
    let few_m : m.0.holds.padding < 8 = m.0.holds.few in
    let few_r : length r.padding < 8 = r.few in
    let counts : length m.0.octets ≡ length r.octets = omega arith in
    let paddings : m.0.holds.padding ≡ length r.padding = omega arith in
    let octets : m.0.octets ≡ r.octets = (split_same m.0.octets r.octets x after counts m.1).0 in
    let bits : packed r.filling ++ r.padding ≡ packed r.filling ++ replicate (length r.padding) false =
    sym r.bits_are ∙ ap bits_of (sym octets) ∙ m.0.holds.filled ∙ ap (λ f. packed f ++ replicate m.0.holds.padding false) same ∙ ap (λ n. packed r.filling ++ replicate n false) paddings in
    r.not_zero (append_cancel_left (packed r.filling) r.padding (replicate (length r.padding) false) bits)

-- at a part of a packet
no_fault_here : (p : Accepting) → Det p.profile.methods p.profile.top → (s t : Contexts) (one x before after : List ℕ) (octet : ℕ) (here : Found) (e : LineFault) → Whole p s one here t → one ++ x ≡ before ++ octet ∷ after →
    BlamesOctet e p s before octet → e ≡ OutOfMemory
no_fault_here p d s t one x before after octet here FlowOctet w e b =
    let whole : one ++ x ≡ octet ∷ after = e ∙ ap (λ z. z ++ octet ∷ after) b.0 in
    let below : octet < length s + length s = first_below p s t one x here octet after w whole in
    let above : length s + length s ≤ octet = b.1 in
    absurd (omega arith)
no_fault_here p d s t one x before after octet here RefusedPacket w e b = absurd (never_refused p s t one x (before ++ octet ∷ []) after here w (e ∙ sym (append_assoc before (octet ∷ []) after)) b)
no_fault_here p d s t one x before after octet here Padding w e b = absurd (never_badly_filled p d s t one x (before ++ octet ∷ []) after here w (e ∙ sym (append_assoc before (octet ∷ []) after)) b)
no_fault_here p d s t one x before after octet here Ended w e b = absurd b
no_fault_here p d s t one x before after octet here OutOfMemory w e b = refl

not_empty : (before after : List ℕ) (octet : ℕ) → [] ≡ before ++ octet ∷ after → ⊥
not_empty [] after octet e = cc
not_empty (x ∷ before) after octet e = cc

fault_by : (p : Accepting) → Det p.profile.methods p.profile.top → (s t u : Contexts) (all before rest left after : List ℕ) (octet : ℕ) (found others : Found) (e : LineFault) → left ≡ [] →
    Heard p s all found left t → all ≡ before ++ octet ∷ after → Heard p s before others rest u → BlamesOctet e p u rest octet → e ≡ OutOfMemory
fault_by p d s t u all before rest left after octet found others e none (waits part) all_is h b = absurd (not_empty before after octet (sym none ∙ all_is))
fault_by p d s t u all before rest left after octet found others e none (goes_on one more here there between one_is found_is whole heard) all_is (waits part) b =
    no_fault_here p d s between one more before after octet here e whole (sym one_is ∙ all_is) b
fault_by p d s t u all before rest left after octet found others e none (goes_on one more here there between one_is found_is whole heard) all_is (goes_on one' more' here' there' between' one_is' found_is' whole' heard') b =
    let fronts : one ++ more ≡ one' ++ (more' ++ octet ∷ after) = sym one_is ∙ all_is ∙ ap (λ z. z ++ octet ∷ after) one_is' ∙ append_assoc one' more' (octet ∷ after) in
    let once = whole_once p d s between between' one one' more (more' ++ octet ∷ after) here here' whole whole' fronts in
    let afters : more ≡ more' ++ octet ∷ after = append_cancel_left one more (more' ++ octet ∷ after) (fronts ∙ ap (λ z. z ++ (more' ++ octet ∷ after)) (sym once.0)) in
    let heard_too : Heard p between more' there' rest u = subst (λ z. Heard p z more' there' rest u) (sym once.2) heard' in
    fault_by p d between t u more more' rest left after octet there there' e none heard afters heard_too b

pub no_fault : NoFault
no_fault p d s t u all before rest after octet found others e h all_is g b = fault_by p d s t u all before rest [] after octet found others e refl h all_is g b
