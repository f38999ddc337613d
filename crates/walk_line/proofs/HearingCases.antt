-- What a whole packet, a part of one, and what was heard consist of, as equations.
use Rattle.std.proofs.Common.{◌≡◌, ◌∙◌, refl, sym, ap, subst, ℕ, ◌+◌, ◌<◌, List, [], ◌∷◌, ◌++◌, length, arith, ◌⊎◌, inl, inr}
use Rattle.std.specs.Prelude.{slice_get, slice_set, Some}
use Rattle.std.proofs.lemmas.Option.{slice_get_within}
use Rattle.sem_bits.specs.Octets.{bits_of, Holds}
use Rattle.sem_context.specs.Entries.{Entries, bits_at}
use Rattle.sem_filling.specs.declared.filling.Filling.{Filling}
use Rattle.sem_filling.specs.Fillings.{packed, item}
use Rattle.sem_filling.specs.Entries.{next}
use Rattle.sem_filling.specs.Fronts.{Det}
use Rattle.sem_filling.proofs.FitsSized.{one_value}
use Rattle.cert_accepted.specs.Accepted.{Accepting}
use Rattle.walk_engine.specs.Reading.{Fitting, Fronts}
use Rattle.walk_line.specs.Lines.{Contexts}
use Rattle.walk_line.specs.Hearing.{Found, Whole, NoFront, IsPart, packet, reset, nothing, begun}
use Rattle.walk_line.proofs.HearingOctets.{front_held, packets_once}

pub record PacketParts (p : Accepting) (s : Contexts) (one : List ℕ) (here : Found) (t : Contexts) : Type 0 where
  pub flow : ℕ
  pub octets : List ℕ
  pub ctx : Entries
  pub filling : Filling
  pub context_is : slice_get s flow ≡ Some ctx
  pub fits : Fitting p ctx filling
  pub holds : Holds octets (packed filling)
  pub one_is : one ≡ flow ∷ octets
  pub here_is : here ≡ (flow, item filling) ∷ []
  pub after_is : t ≡ slice_set s flow (next ctx filling)

pub record ResetParts (s : Contexts) (one : List ℕ) (here : Found) (t : Contexts) : Type 0 where
  pub flow : ℕ
  pub ctx : Entries
  pub context_is : slice_get s flow ≡ Some ctx
  pub one_is : one ≡ (length s + flow) ∷ []
  pub here_is : here ≡ []
  pub after_is : t ≡ slice_set s flow []

pub whole_parts : {p : Accepting} {s : Contexts} {one : List ℕ} {here : Found} {t : Contexts} → Whole p s one here t → PacketParts p s one here t ⊎ ResetParts s one here t
whole_parts (packet {octets = o} flow ctx f at fitting holds) =
    inl (record { flow = flow; octets = o; ctx = ctx; filling = f; context_is = at; fits = fitting; holds = holds; one_is = refl; here_is = refl; after_is = refl })
whole_parts (reset flow ctx at) = inr (record { flow = flow; ctx = ctx; context_is = at; one_is = refl; here_is = refl; after_is = refl })

pub record BegunParts (p : Accepting) (s : Contexts) (rest : List ℕ) : Type 0 where
  pub flow : ℕ
  pub octets : List ℕ
  pub ctx : Entries
  pub context_is : slice_get s flow ≡ Some ctx
  pub none : NoFront p ctx octets
  pub rest_is : rest ≡ flow ∷ octets

pub part_parts : {p : Accepting} {s : Contexts} {rest : List ℕ} → IsPart p s rest → (rest ≡ []) ⊎ BegunParts p s rest
part_parts nothing = inl refl
part_parts (begun {octets = o} flow ctx at none) = inr (record { flow = flow; octets = o; ctx = ctx; context_is = at; none = none; rest_is = refl })

-- one packet or reset is at the front of octets
pub whole_once : (p : Accepting) → Det p.profile.methods p.profile.top → (s t u : Contexts) (one other x y : List ℕ) (here there : Found) → Whole p s one here t → Whole p s other there u → one ++ x ≡ other ++ y
    → (one ≡ other) × (here ≡ there) × (t ≡ u)
whole_once p d s t u one other x y here there a b e = by (whole_parts a) (whole_parts b)
  where
    by : PacketParts p s one here t ⊎ ResetParts s one here t → PacketParts p s other there u ⊎ ResetParts s other there u → (one ≡ other) × (here ≡ there) × (t ≡ u)
    by (inl m) (inl n) =
        let whole : m.flow ∷ (m.octets ++ x) ≡ n.flow ∷ (n.octets ++ y) = ap (λ z. z ++ x) (sym m.one_is) ∙ e ∙ ap (λ z. z ++ y) n.one_is in
        let flows : m.flow ≡ n.flow = cc in
        let after : m.octets ++ x ≡ n.octets ++ y = cc in
        let at_n : slice_get s m.flow ≡ Some n.ctx = ap (slice_get s) flows ∙ n.context_is in
        let contexts : m.ctx ≡ n.ctx = one_value _ m.ctx n.ctx m.context_is at_n in
        let fits_n : Fitting p m.ctx n.filling = subst (λ c. Fitting p c n.filling) (sym contexts) n.fits in
        let once = packets_once p d (bits_at m.ctx) m.filling n.filling m.octets n.octets x y m.fits fits_n m.holds n.holds after in
        let same : m.filling ≡ n.filling = once.0 in
        let octets : m.octets ≡ n.octets = once.1 in
        let ones : one ≡ other = m.one_is ∙ ap (λ z. z ∷ m.octets) flows ∙ ap (λ z. n.flow ∷ z) octets ∙ sym n.one_is in
        let heres : here ≡ there = m.here_is ∙ ap (λ z. (z, item m.filling) ∷ []) flows ∙ ap (λ z. (n.flow, item z) ∷ []) same ∙ sym n.here_is in
        let afters : t ≡ u = m.after_is ∙ ap (λ z. slice_set s z (next m.ctx m.filling)) flows ∙ ap (λ z. slice_set s n.flow (next z m.filling)) contexts ∙ ap (λ z. slice_set s n.flow (next n.ctx z)) same ∙ sym n.after_is in
        (ones, heres, afters)
    by (inl m) (inr n) =
        let whole : m.flow ∷ (m.octets ++ x) ≡ (length s + n.flow) ∷ y = ap (λ z. z ++ x) (sym m.one_is) ∙ e ∙ ap (λ z. z ++ y) n.one_is in
        let flows : m.flow ≡ length s + n.flow = cc in
        let within : m.flow < length s = slice_get_within s m.flow m.ctx m.context_is in
        absurd (omega arith)
    by (inr m) (inl n) =
        let whole : (length s + m.flow) ∷ x ≡ n.flow ∷ (n.octets ++ y) = ap (λ z. z ++ x) (sym m.one_is) ∙ e ∙ ap (λ z. z ++ y) n.one_is in
        let flows : length s + m.flow ≡ n.flow = cc in
        let within : n.flow < length s = slice_get_within s n.flow n.ctx n.context_is in
        absurd (omega arith)
    by (inr m) (inr n) =
        let whole : (length s + m.flow) ∷ x ≡ (length s + n.flow) ∷ y = ap (λ z. z ++ x) (sym m.one_is) ∙ e ∙ ap (λ z. z ++ y) n.one_is in
        let sums : length s + m.flow ≡ length s + n.flow = cc in
        let flows : m.flow ≡ n.flow = omega arith in
        let ones : one ≡ other = m.one_is ∙ ap (λ z. (length s + z) ∷ []) flows ∙ sym n.one_is in
        let heres : here ≡ there = m.here_is ∙ sym n.here_is in
        let afters : t ≡ u = m.after_is ∙ ap (λ z. slice_set s z []) flows ∙ sym n.after_is in
        (ones, heres, afters)

-- what begins with a whole packet or reset is not part of one
pub never_part : (p : Accepting) → (s t : Contexts) (one x rest : List ℕ) (here : Found) → Whole p s one here t → IsPart p s rest → rest ≡ one ++ x → ⊥
never_part p s t one x rest here a b e = by (whole_parts a) (part_parts b)
  where
    by : PacketParts p s one here t ⊎ ResetParts s one here t → (rest ≡ []) ⊎ BegunParts p s rest → ⊥
    by (inl m) (inl n) =
        let whole : [] ≡ m.flow ∷ (m.octets ++ x) = sym n ∙ e ∙ ap (λ z. z ++ x) m.one_is in
        cc
    by (inr m) (inl n) =
        let whole : [] ≡ (length s + m.flow) ∷ x = sym n ∙ e ∙ ap (λ z. z ++ x) m.one_is in
        cc
    by (inl m) (inr n) =
        let whole : n.flow ∷ n.octets ≡ m.flow ∷ (m.octets ++ x) = sym n.rest_is ∙ e ∙ ap (λ z. z ++ x) m.one_is in
        let flows : m.flow ≡ n.flow = cc in
        let octets : m.octets ++ x ≡ n.octets = cc in
        let at_n : slice_get s m.flow ≡ Some n.ctx = ap (slice_get s) flows ∙ n.context_is in
        let contexts : m.ctx ≡ n.ctx = one_value _ m.ctx n.ctx m.context_is at_n in
        let front : Fronts p m.ctx (bits_of (m.octets ++ x)) m.filling = front_held p (bits_at m.ctx) m.filling m.octets x m.fits m.holds in
        let there : Fronts p n.ctx (bits_of n.octets) m.filling =
        subst (λ o. Fronts p n.ctx (bits_of o) m.filling) octets (subst (λ c. Fronts p c (bits_of (m.octets ++ x)) m.filling) contexts front) in
        n.none m.filling there
    by (inr m) (inr n) =
        let whole : n.flow ∷ n.octets ≡ (length s + m.flow) ∷ x = sym n.rest_is ∙ e ∙ ap (λ z. z ++ x) m.one_is in
        let flows : n.flow ≡ length s + m.flow = cc in
        let within : n.flow < length s = slice_get_within s n.flow n.ctx n.context_is in
        absurd (omega arith)
