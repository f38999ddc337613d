-- The next digit of a number, and how many candidates share the digits that were read.
use Rattle.std.proofs.Common.{◌≡◌, refl, sym, ◌∙◌, ap, subst, ℕ, zero, suc, ◌+◌, ◌-◌, ◌*◌, ◌/◌, ◌%◌, ◌<◌, ◌≤◌, List, ◌∷◌, arith}
use Rattle.std.proofs.lemmas.Nat.{div-add-mod'}
use Rattle.std.proofs.Math.Nat.{mul-le-mul_right, mod-lt, mul-div_cancel_left}
use Rattle.sem_profile.specs.declared.profile.Format.{Format}
use Rattle.sem_profile.specs.declared.profile.Method.{Method}
use Rattle.cert_types.specs.declared.certificate.Step.{Step}
use Rattle.cert_types.specs.Kept.{Entries}
use Rattle.cert_rules.specs.Counts.{ways, plan_ways, AreCounts}
use Rattle.cert_candidates.specs.declared.digits.Digits.{Digits}
use Rattle.cert_candidates.specs.Codes.{number}
use Rattle.cert_candidates.specs.Digits.{InSpan}
use Rattle.cert_candidates.specs.Reading.{Divides, IsNext, IsReading, ReadsOn, CarriesOn, ShareDigits, ShareUpTo}
use Rattle.cert_candidates.proofs.Reading.{digit_under, wider, known, skip}

-- ---- numbers

-- neither factor of a product above some number is 0
pub ways_above : (radix others span rest : ℕ) → radix * others ≡ span → rest < span → (0 < radix) × (0 < others)
ways_above zero others span rest e l = absurd (omega (arith, e, l))
ways_above (suc radix) zero span rest e l = absurd (omega (arith, e, l))
ways_above (suc radix) (suc others) span rest e l = (omega arith, omega arith)

one_factor : (radix x y : ℕ) → 0 < radix → radix * x ≡ radix * y → x ≡ y
one_factor radix x y above e =
    let a : (radix * x) / radix ≡ x = mul-div_cancel_left x above in
    let b : (radix * y) / radix ≡ y = mul-div_cancel_left y above in
    sym a ∙ (ap (λ z. z / radix) e ∙ b)

-- what is left of the span is the other factor
pub others_are : (radix others span : ℕ) → radix * others ≡ span → 0 < radix → span / radix ≡ others
others_are radix others span e above =
    let a : (radix * others) / radix ≡ others = mul-div_cancel_left others above in
    ap (λ z. z / radix) (sym e) ∙ a

-- what `next` makes of a place
pub next_is : (radix : ℕ) (old : Digits) → Divides radix old.span → old.rest < old.span →
    IsNext radix old (old.rest / (old.span / radix)) (record { rest = old.rest % (old.span / radix); span = old.span / radix })
next_is radix old divides l =
    let e = divides.1 in
    let above = ways_above radix divides.0 old.span old.rest e l in
    let span_is = others_are radix divides.0 old.span e above.0 in
    subst (λ z. IsNext radix old (old.rest / z) (record { rest = old.rest % z; span = z })) (sym span_is) (split divides.0 e above.1)
  where
    split : (others : ℕ) → radix * others ≡ old.span → 0 < others → IsNext radix old (old.rest / others) (record { rest = old.rest % others; span = others })
    split others e above =
        let whole = div-add-mod' old.rest others in
        let under : old.rest / others * others + old.rest % others < radix * others = omega (arith, whole, e, l) in
        record {
          digit_below = digit_under (old.rest / others) (old.rest % others) radix others under;
          below = mod-lt old.rest above;
          span_is = e;
          rest_is = whole;
        }

-- ---- what is carried on

module _ (radix : ℕ) (old : Digits) (digit : ℕ) (new : Digits) (next : IsNext radix old digit new) where
  module _ (methods : List Method) (cert : Entries) (counts : List ℕ) (are : AreCounts methods cert counts) (k n : ℕ) (format : Format) (step : Step) (steps : List Step) (c : ℕ) (radix_is : radix ≡ ways counts format step)
      (before : IsReading methods cert counts k n format (step ∷ steps) c old) where
    abbrev others : ℕ
    others = plan_ways counts format steps

    span_left : new.span ≡ others
    span_left =
        let above : 0 < radix = let l = next.digit_below in omega (arith, l) in
        one_factor radix new.span others above (next.span_is ∙ (before.span_is ∙ ap (λ z. z * others) (sym radix_is)))

    digit_below : digit < ways counts format step
    digit_below = let l = next.digit_below in omega (arith, l, radix_is)

    on : IsReading methods cert counts k n format steps c new
    on =
        let product : digit * new.span ≡ digit * others = ap (λ z. digit * z) span_left in
        let rest_is = next.rest_is in
        let number_is = before.number_is in
        record {
          base = before.base + digit * others;
          all = (known methods cert counts are k n format before.base step steps before.all digit digit_below).0;
          span_is = span_left;
          below = next.below;
          number_is = omega (arith, product, rest_is, number_is);
        }

    carried : ReadsOn methods cert counts k n format step steps c old before digit new
    unfolding on
    carried = record {
      after = on;
      base_is = refl;
      inside = wider methods cert counts are k format before.base step steps digit digit_below;
      theirs = (known methods cert counts are k n format before.base step steps before.all digit digit_below).1;
    }

  carries : CarriesOn radix old digit new
  carries = carried

pub next_carries : (radix : ℕ) (old : Digits) → Divides radix old.span → old.rest < old.span → CarriesOn radix old (old.rest / (old.span / radix)) (record { rest = old.rest % (old.span / radix); span = old.span / radix })
next_carries radix old divides l = carries radix old _ _ (next_is radix old divides l)

-- the last digit is what is left of the number
pub last_carries : (radix : ℕ) (old : Digits) → old.span ≡ radix → old.rest < old.span → CarriesOn radix old old.rest (record { rest = 0; span = 1 })
last_carries radix old same below = carries radix old _ _ (record { digit_below = omega (arith, same, below); below = omega arith; span_is = omega (arith, same); rest_is = omega arith })

-- ---- what is skipped

pub shares : (place : Digits) (skipped : ℕ) → skipped + place.rest ≡ place.span → ShareDigits place skipped
shares place skipped e methods cert counts k n format steps c reading f tried from to =
    let number_is = reading.number_is in
    let span_is = reading.span_is in
    let i : InSpan methods cert counts k format reading.base steps f = record { from = omega (arith, number_is, from); to = omega (arith, number_is, span_is, e, to) } in
    record { within = i; read = reading.all f tried i }

skipped_are : (m span rest : ℕ) → rest < span → 0 < m → (m * span - rest) + rest ≡ m * span
skipped_are m span rest l above = let least : 1 * span ≤ m * span = mul-le-mul_right span (omega (arith, above)) in omega (arith, least, l)

up_to : (m : ℕ) (place : Digits) (skipped : ℕ) → skipped + place.rest ≡ m * place.span → ShareUpTo m place skipped
up_to m place skipped e methods cert counts are k n format step steps c old before digit on within f tried from to =
    let w = plan_ways counts format steps in
    let number_is = on.after.number_is in
    let span_is = on.after.span_is in
    let base_is = on.base_is in
    let product : m * place.span ≡ m * w = ap (λ z. m * z) span_is in
    let parts : (digit + m) * w ≡ digit * w + m * w = omega arith in
    let above : before.base + digit * w ≤ number methods cert counts f k = omega (arith, number_is, base_is, from) in
    let under : number methods cert counts f k < before.base + (digit + m) * w = omega (arith, number_is, base_is, product, parts, e, to) in
    let most : (digit + m) * w ≤ ways counts format step * w = mul-le-mul_right w within in
    let h = skip methods cert counts are k n format before.base step steps before.all digit m within f tried above under in
    (record { within = record { from = omega (arith, above); to = omega (arith, under, most) }; read = h.0 }, h.1, h.2)

pub shares_up_to : (m : ℕ) (place : Digits) → place.rest < place.span → 0 < m → ShareUpTo m place (m * place.span - place.rest)
shares_up_to m place l above = up_to m place (m * place.span - place.rest) (skipped_are m place.span place.rest l above)
