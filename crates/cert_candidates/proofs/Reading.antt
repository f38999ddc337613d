-- The digits of a number, read one by one.
use Rattle.std.proofs.Common.{◌≡◌, refl, sym, ◌∙◌, ap, subst, ℕ, zero, suc, ◌+◌, ◌*◌, ◌<◌, ◌≤◌, List, [], ◌∷◌, ◌++◌, length, inl, inr, arith}
use Rattle.std.specs.Prelude.{Some, slice_get, option_and_then, option_map}
use Rattle.std.proofs.lemmas.Bool.{cases_lt}
use Rattle.std.proofs.lemmas.List.{append_assoc}
use Rattle.std.proofs.Math.Nat.{mul-le-mul_right}
use Rattle.sem_profile.specs.declared.profile.Format.{Format}
use Rattle.sem_profile.specs.declared.profile.Method.{Method}
use Rattle.sem_filling.specs.declared.filling.Filling.{Filling, out-Filling}
use Rattle.sem_filling.specs.Fits.{format_at}
use Rattle.cert_types.specs.declared.certificate.Step.{Step}
use Rattle.cert_types.specs.declared.certificate.Plans.{Plans}
use Rattle.cert_types.specs.Kept.{Entries}
use Rattle.cert_rules.specs.Counts.{ways, plan_ways, AreCounts}
use Rattle.cert_candidates.specs.Codes.{Shown, step_digit, place, write_plan, ways_before, number, numbers_in, called_at, IsCandidate}
use Rattle.cert_candidates.specs.Digits.{HasRead, InSpan, AllRead}
use Rattle.cert_candidates.proofs.CodesSums.{before_next, place_below}
use Rattle.cert_candidates.proofs.CodesBounds.{parts, digits, number_by, shown_is}
use Rattle.cert_candidates.proofs.CodesLevels.{inner_shown}
use Rattle.cert_candidates.proofs.CodesFitting.{bits_are}
use Rattle.sem_bits.specs.Number.{num}
use Rattle.sem_expr.specs.declared.expr.Side.TheVariants.{Uncompressed}
use Rattle.sem_filling.specs.Fillings.{fields_of, inner_at, level}
use Rattle.sem_filling.specs.Fits.{field_side}
use Rattle.cert_types.specs.declared.certificate.Step.TheVariants.{Call, Choose}

after : {X : Type 0} (xs ys : List X) (j : ℕ) → slice_get (xs ++ ys) (length xs + j) ≡ slice_get ys j
after [] ys j = let e : 0 + j ≡ j = omega arith in ap (slice_get ys) e
after (x ∷ xs) ys j = let e : length (x ∷ xs) + j ≡ suc (length xs + j) = omega arith in ap (slice_get (x ∷ (xs ++ ys))) e ∙ after xs ys j

-- a digit lies where the number does
digit_from : (d x p w : ℕ) → p < w → d * w ≤ x * w + p → d ≤ x
digit_from d x p w l h = elim (cases_lt x d) [
  | inl below ↦
      let le : (x + 1) * w ≤ d * w = mul-le-mul_right w (omega (arith, below)) in
      let e : (x + 1) * w ≡ x * w + w = omega arith in
      absurd (omega (arith, le, e, l, h))
  | inr past ↦ past
]

pub digit_under : (x p r w : ℕ) → x * w + p < r * w → x < r
digit_under x p r w h = elim (cases_lt x r) [
  | inl below ↦ below
  | inr past ↦ let le : r * w ≤ x * w = mul-le-mul_right w past in absurd (omega (arith, le, h))
]

at_front : {X : Type 0} (xs ys : List X) (j : ℕ) (x : X) → slice_get xs j ≡ Some x → slice_get (xs ++ ys) j ≡ Some x
at_front [] ys j x e = absurd (cc)
at_front (y ∷ xs) ys zero x e = e
at_front (y ∷ xs) ys (suc j) x e = at_front xs ys j x e

-- the digits of a first part take up the rest of the room
room : (counts : List ℕ) (format : Format) (gs : List (Shown ℕ)) (done steps : List Step) → ((j : ℕ) (s : Step) → slice_get done j ≡ Some s → step_digit format gs s < ways counts format s) →
    (place counts format gs steps ≤ place counts format gs (done ++ steps))
    × (place counts format gs (done ++ steps) + plan_ways counts format steps ≤ plan_ways counts format (done ++ steps) + place counts format gs steps)
room counts format gs [] steps h = (omega arith, omega arith)
room counts format gs (s ∷ done) steps h =
    let more = room counts format gs done steps (λ j. h (suc j)) in
    let a = more.0 in
    let b = more.1 in
    let l = h 0 s refl in
    let w = plan_ways counts format (done ++ steps) in
    let le : (step_digit format gs s + 1) * w ≤ ways counts format s * w = mul-le-mul_right w (omega (arith, l)) in
    let e : (step_digit format gs s + 1) * w ≡ step_digit format gs s * w + w = omega arith in
    (omega (arith, a), omega (arith, b, le, e))

module _ (methods : List Method) (cert : Entries) (counts : List ℕ) where
  pub begun : (k n : ℕ) (format : Format) (plans : Plans) → format_at methods k n ≡ Some format → write_plan cert k n ≡ Some plans → (f : Filling) → (out-Filling f).format ≡ n →
      HasRead methods cert counts k n format (ways_before methods cert counts k n) plans.write f
  begun k n format plans at plans_at f e = record {
    format_is = e;
    at = at;
    plans = plans;
    plans_are = plans_at;
    done = [];
    so_far = refl;
    number_is = number_by methods cert counts k f format plans (ap (format_at methods k) e ∙ at) (ap (write_plan cert k) e ∙ plans_at)
        ∙ ap (λ z. ways_before methods cert counts k z + place counts format (numbers_in methods cert counts f) plans.write) e;
  }

  pub onward : (k n : ℕ) (format : Format) (base : ℕ) (step : Step) (steps : List Step) (f : Filling) →
      HasRead methods cert counts k n format base (step ∷ steps) f →
      HasRead methods cert counts k n format (base + step_digit format (numbers_in methods cert counts f) step * plan_ways counts format steps) steps f
  onward k n format base step steps f h =
      let e = h.number_is in
      record {
        format_is = h.format_is;
        at = h.at;
        plans = h.plans;
        plans_are = h.plans_are;
        done = h.done ++ step ∷ [];
        so_far = h.so_far ∙ sym (append_assoc h.done (step ∷ []) steps);
        number_is = omega (arith, e);
      }

  pub end : (k n : ℕ) (format : Format) (base : ℕ) (f : Filling) → HasRead methods cert counts k n format base [] f → number methods cert counts f k ≡ base
  end k n format base f h = let e = h.number_is in omega (arith, e)

  module _ (are : AreCounts methods cert counts) where
    -- the digits of the steps that are left are below these steps' ways
    left_digits : (k n : ℕ) (format : Format) (base : ℕ) (steps : List Step) (f : Filling) → IsCandidate methods cert counts k f → HasRead methods cert counts k n format base steps f →
        (j : ℕ) (s : Step) → slice_get steps j ≡ Some s → step_digit format (numbers_in methods cert counts f) s < ways counts format s
    left_digits k n format base steps f c h j s e =
        let p = parts c in
        let at_n : format_at methods k n ≡ Some p.format = ap (format_at methods k) (sym h.format_is) ∙ p.format_is in
        let plans_n : write_plan cert k n ≡ Some p.plans = ap (write_plan cert k) (sym h.format_is) ∙ p.plans_is in
        let same_format : p.format ≡ format = let a = h.at in cc in
        let same_plans : p.plans ≡ h.plans = let a = h.plans_are in cc in
        let all : (j : ℕ) (s : Step) → slice_get p.plans.write j ≡ Some s → step_digit format (numbers_in methods cert counts f) s < ways counts format s =
        subst (λ (z : Format). (j : ℕ) (s : Step) → slice_get p.plans.write j ≡ Some s → step_digit z (numbers_in methods cert counts f) s < ways counts z s) same_format (digits methods cert counts are k f p) in
        all (length h.done + j) s (ap (λ (z : Plans). slice_get z.write (length h.done + j)) same_plans ∙ (ap (λ z. slice_get z (length h.done + j)) h.so_far ∙ (after h.done steps j ∙ e)))

    left_below : (k n : ℕ) (format : Format) (base : ℕ) (steps : List Step) (f : Filling) → IsCandidate methods cert counts k f → HasRead methods cert counts k n format base steps f →
        place counts format (numbers_in methods cert counts f) steps < plan_ways counts format steps
    left_below k n format base steps f c h = place_below counts format (numbers_in methods cert counts f) steps (left_digits k n format base steps f c h)

    pub back : (k n : ℕ) (format : Format) (base : ℕ) (steps : List Step) (f : Filling) → IsCandidate methods cert counts k f → HasRead methods cert counts k n format base steps f →
        (base ≤ number methods cert counts f k) × (number methods cert counts f k < base + plan_ways counts format steps)
    back k n format base steps f c h =
        let l = left_below k n format base steps f c h in
        let e = h.number_is in
        (omega (arith, e), omega (arith, e, l))

    pub step : (k n : ℕ) (format : Format) (base : ℕ) (step : Step) (steps : List Step) (f : Filling) →
        IsCandidate methods cert counts k f → HasRead methods cert counts k n format base (step ∷ steps) f → (d m : ℕ) →
        base + d * plan_ways counts format steps ≤ number methods cert counts f k → number methods cert counts f k < base + (d + m) * plan_ways counts format steps →
        (d ≤ step_digit format (numbers_in methods cert counts f) step) × (step_digit format (numbers_in methods cert counts f) step < d + m)
    step k n format base s steps f c h d m from to =
        let l = left_below k n format (base + step_digit format (numbers_in methods cert counts f) s * plan_ways counts format steps) steps f c (onward k n format base s steps f h) in
        let e = h.number_is in (
          digit_from d (step_digit format (numbers_in methods cert counts f) s) (place counts format (numbers_in methods cert counts f) steps) (plan_ways counts format steps) l (omega (arith, e, from)),
          digit_under (step_digit format (numbers_in methods cert counts f) s) (place counts format (numbers_in methods cert counts f) steps) (d + m) (plan_ways counts format steps) (omega (arith, e, to)),
        )

    pub start : (k n : ℕ) (format : Format) (plans : Plans) (f : Filling) →
        IsCandidate methods cert counts k f → format_at methods k n ≡ Some format → write_plan cert k n ≡ Some plans →
        ways_before methods cert counts k n ≤ number methods cert counts f k → number methods cert counts f k < ways_before methods cert counts k n + plan_ways counts format plans.write →
        HasRead methods cert counts k n format (ways_before methods cert counts k n) plans.write f
    start k n format plans f c at plans_at from to =
        let p = parts c in
        let own = number_by methods cert counts k f p.format p.plans p.format_is p.plans_is in
        let l = place_below counts p.format (numbers_in methods cert counts f) p.plans.write (digits methods cert counts are k f p) in
        elim (cases_lt (out-Filling f).format n) [
          | inl below ↦ let w = before_next methods cert counts k (out-Filling f).format p.format p.plans p.format_is p.plans_is n below in absurd (omega (arith, own, l, w, from))
          | inr past ↦ elim (cases_lt n (out-Filling f).format) [
            | inl above ↦ let w = before_next methods cert counts k n format plans at plans_at (out-Filling f).format above in absurd (omega (arith, own, w, to))
            | inr under ↦
                let e : (out-Filling f).format ≡ n = omega (arith, past, under) in
                begun k n format plans at plans_at f e
          ]
        ]

    -- the part of a digit lies in the whole
    pub wider : (k : ℕ) (format : Format) (base : ℕ) (s : Step) (steps : List Step) (d : ℕ) → d < ways counts format s →
        (g : Filling) → InSpan methods cert counts k format (base + d * plan_ways counts format steps) steps g → InSpan methods cert counts k format base (s ∷ steps) g
    wider k format base s steps d l g i =
        let from = i.from in
        let to = i.to in
        let le : (d + 1) * plan_ways counts format steps ≤ ways counts format s * plan_ways counts format steps = mul-le-mul_right (plan_ways counts format steps) (omega (arith, l)) in
        let e : (d + 1) * plan_ways counts format steps ≡ d * plan_ways counts format steps + plan_ways counts format steps = omega arith in
        record { from = omega (arith, from); to = omega (arith, to, le, e) }

    -- what all candidates of a span have read, goes on with the digit
    pub known : (k n : ℕ) (format : Format) (base : ℕ) (s : Step) (steps : List Step) → AllRead methods cert counts k n format base (s ∷ steps) → (d : ℕ) → d < ways counts format s →
        AllRead methods cert counts k n format (base + d * plan_ways counts format steps) steps
        × ((g : Filling) → IsCandidate methods cert counts k g → InSpan methods cert counts k format (base + d * plan_ways counts format steps) steps g → step_digit format (numbers_in methods cert counts g) s ≡ d)
    known k n format base s steps all d l =
        ((λ g c i. subst (λ z. HasRead methods cert counts k n format (base + z * plan_ways counts format steps) steps g) (digit g c i) (onward k n format base s steps g (all g c (wider k format base s steps d l g i)))), digit) where
          digit : (g : Filling) → IsCandidate methods cert counts k g → InSpan methods cert counts k format (base + d * plan_ways counts format steps) steps g → step_digit format (numbers_in methods cert counts g) s ≡ d
          digit g c i =
              let to = i.to in
              let e : (d + 1) * plan_ways counts format steps ≡ d * plan_ways counts format steps + plan_ways counts format steps = omega arith in
              let h = step k n format base s steps g c (all g c (wider k format base s steps d l g i)) d 1 i.from (omega (arith, to, e)) in
              let a = h.0 in
              let b = h.1 in
              omega (arith, a, b)

    shared_from : (k n : ℕ) (format : Format) (f g : Filling) → IsCandidate methods cert counts k f → IsCandidate methods cert counts k g → (done steps : List Step) (base from : ℕ) →
        HasRead methods cert counts k n format from (done ++ steps) f → HasRead methods cert counts k n format from (done ++ steps) g →
        number methods cert counts f k ≡ base + place counts format (numbers_in methods cert counts f) steps → InSpan methods cert counts k format base steps g →
        HasRead methods cert counts k n format base steps g
        × ((j : ℕ) (s : Step) → slice_get done j ≡ Some s → step_digit format (numbers_in methods cert counts g) s ≡ step_digit format (numbers_in methods cert counts f) s)
    shared_from k n format f g cf cg [] steps base from hf hg e i =
        let a = hf.number_is in
        let same : from ≡ base = omega (arith, a, e) in
        (subst (λ z. HasRead methods cert counts k n format z steps g) same hg, λ j s at. absurd (cc))
    shared_from k n format f g cf cg (s ∷ done) steps base from hf hg e i =
        let d = step_digit format (numbers_in methods cert counts f) s in
        let w = plan_ways counts format (done ++ steps) in
        let onf = onward k n format from s (done ++ steps) f hf in
        let r = room counts format (numbers_in methods cert counts f) done steps (λ j x at. left_digits k n format from (s ∷ (done ++ steps)) f cf hf (suc j) x (at_front done steps j x at)) in
        let a = onf.number_is in
        let low = r.0 in
        let high = r.1 in
        let least = i.from in
        let most = i.to in
        let next : (d + 1) * w ≡ d * w + w = omega arith in
        let b = step k n format from s (done ++ steps) g cg hg d 1 (omega (arith, a, e, low, least)) (omega (arith, a, e, high, most, next)) in
        let b0 = b.0 in
        let b1 = b.1 in
        let same : step_digit format (numbers_in methods cert counts g) s ≡ d = omega (arith, b0, b1) in
        let ong = subst (λ z. HasRead methods cert counts k n format (from + z * w) (done ++ steps) g) same (onward k n format from s (done ++ steps) g hg) in
        let more = shared_from k n format f g cf cg done steps base (from + d * w) onf ong e i in
        (more.0, both d same more.1) where
          both : (d : ℕ) → step_digit format (numbers_in methods cert counts g) s ≡ step_digit format (numbers_in methods cert counts f) s →
              ((j : ℕ) (x : Step) → slice_get done j ≡ Some x → step_digit format (numbers_in methods cert counts g) x ≡ step_digit format (numbers_in methods cert counts f) x) →
              (j : ℕ) (x : Step) → slice_get (s ∷ done) j ≡ Some x → step_digit format (numbers_in methods cert counts g) x ≡ step_digit format (numbers_in methods cert counts f) x
          both d same more zero x at = let is : s ≡ x = cc in subst (λ z. step_digit format (numbers_in methods cert counts g) z ≡ step_digit format (numbers_in methods cert counts f) z) is same
          both d same more (suc j) x at = more j x at

    pub shared : (k n : ℕ) (format : Format) (base : ℕ) (steps : List Step) (f g : Filling) → IsCandidate methods cert counts k f → IsCandidate methods cert counts k g →
        (h : HasRead methods cert counts k n format base steps f) → InSpan methods cert counts k format base steps g →
        HasRead methods cert counts k n format base steps g
        × ((j : ℕ) (s : Step) → slice_get h.done j ≡ Some s → step_digit format (numbers_in methods cert counts g) s ≡ step_digit format (numbers_in methods cert counts f) s)
    shared k n format base steps f g cf cg h i =
        let from = ways_before methods cert counts k n in
        let whole = begun k n format h.plans h.at h.plans_are f h.format_is in
        let hf = subst (λ z. HasRead methods cert counts k n format from z f) h.so_far whole in
        let r = room counts format (numbers_in methods cert counts f) h.done steps (λ j x at. left_digits k n format from (h.done ++ steps) f cf hf j x (at_front h.done steps j x at)) in
        let low = r.0 in
        let high = r.1 in
        let a = hf.number_is in
        let e = h.number_is in
        let least = i.from in
        let most = i.to in
        let ways_are : plan_ways counts format h.plans.write ≡ plan_ways counts format (h.done ++ steps) = ap (plan_ways counts format) h.so_far in
        let hg = start k n format h.plans g cg h.at h.plans_are (omega (arith, a, e, low, least)) (omega (arith, a, e, high, most, ways_are)) in
        shared_from k n format f g cf cg h.done steps base from hf (subst (λ z. HasRead methods cert counts k n format from z g) h.so_far hg) e i

    pub skip : (k n : ℕ) (format : Format) (base : ℕ) (s : Step) (steps : List Step) → AllRead methods cert counts k n format base (s ∷ steps) → (d m : ℕ) → d + m ≤ ways counts format s →
        (f : Filling) → IsCandidate methods cert counts k f →
        base + d * plan_ways counts format steps ≤ number methods cert counts f k → number methods cert counts f k < base + (d + m) * plan_ways counts format steps →
        HasRead methods cert counts k n format base (s ∷ steps) f
        × (d ≤ step_digit format (numbers_in methods cert counts f) s) × (step_digit format (numbers_in methods cert counts f) s < d + m)
    skip k n format base s steps all d m l f c from to =
        let le : (d + m) * plan_ways counts format steps ≤ ways counts format s * plan_ways counts format steps = mul-le-mul_right (plan_ways counts format steps) l in
        let h = all f c (record { from = omega (arith, from); to = omega (arith, to, le) }) in
        let b = step k n format base s steps f c h d m from to in
        (h, b.0, b.1)

pub choice : (methods : List Method) (cert : Entries) (counts : List ℕ) (format : Format) (f : Filling) (i : ℕ) →
    step_digit format (numbers_in methods cert counts f) (Choose i) ≡ num (field_side (slice_get (level f) i) Uncompressed)
choice methods cert counts format f i = ap num (bits_are (number methods cert counts) (fields_of f) i)

pub call : (methods : List Method) (cert : Entries) (counts : List ℕ) (format : Format) (f : Filling) (i c : ℕ) (inner : Filling) →
    called_at format i ≡ Some c → inner_at f i ≡ Some inner → step_digit format (numbers_in methods cert counts f) (Call i) ≡ number methods cert counts inner c
call methods cert counts format f i c inner e e' =
    shown_is 0 (called_at format i) (option_and_then (λ g. g.inner) (slice_get (numbers_in methods cert counts f) i)) c (number methods cert counts inner) e
    (inner_shown (number methods cert counts) (fields_of f) i ∙ ap (option_map (number methods cert counts)) e')
