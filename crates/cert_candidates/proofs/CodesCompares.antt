-- The codes of two candidates stand to each other as their numbers do.
use Rattle.std.proofs.Common.{◌≡◌, refl, sym, ◌∙◌, ap, subst, ℕ, suc, ◌+◌, ◌<◌, ◌≤◌, List, [], ◌∷◌, inl, inr, arith}
use Rattle.std.specs.Prelude.{Some, option_and_then, option_map, slice_get, ◌↔◌}
use Rattle.std.specs.List.{flat_map}
use Rattle.std.proofs.lemmas.Bool.{cases_lt}
use Rattle.sem_bits.specs.Number.{num}
use Rattle.sem_profile.specs.declared.profile.Format.{Format}
use Rattle.sem_profile.specs.declared.profile.Method.{Method}
use Rattle.sem_filling.specs.declared.filling.Filling.{Filling, out-Filling}
use Rattle.sem_filling.specs.declared.filling.Item.{Item}
use Rattle.sem_filling.specs.Fillings.{fields_of, inner_at, item}
use Rattle.sem_filling.specs.Fits.{Context, format_at}
use Rattle.sem_filling.specs.Fronts.{FitsTop}
use Rattle.cert_types.specs.declared.certificate.Step.{Step}
use Rattle.cert_types.specs.declared.certificate.Step.TheVariants.{Take, Call, LibraryUp, LibraryDown, MethodLength, ConstraintLength, Solve, Choose, Ask}
use Rattle.cert_types.specs.declared.certificate.Plans.{Plans}
use Rattle.cert_types.specs.Kept.{Entries}
use Rattle.cert_rules.specs.Counts.{ways, plan_ways, AreCounts}
use Rattle.cert_candidates.specs.Best.{IsUpTo, Best}
use Rattle.cert_candidates.specs.Codes.{Shown, shown_bits, step_code, step_digit, place, plan_code, write_plan, ways_before, code, codes_in, number, numbers_in, called_at, IsCandidate, candidate}
use Rattle.cert_candidates.proofs.CodesLevels.{code_is, inner_shown, bits_shown}
use Rattle.cert_candidates.proofs.BestOrder.{Compared, lower, equal, higher, strictly_first, compared_same, joined, headed, up_to, up_back}
use Rattle.cert_candidates.proofs.BestOrder as order
use Rattle.cert_candidates.proofs.CodesSums.{before_next, place_below}
use Rattle.cert_candidates.proofs.CodesBounds.{Parts, parts, shown_is, digit_is, digits, number_by}

-- the codes and the digits of two plans, step by step
steps_compared : (counts : List ℕ) (format : Format) (cf cg : List (Shown (List ℕ))) (nf ng : List (Shown ℕ)) (steps : List Step) →
    ((j : ℕ) (s : Step) → slice_get steps j ≡ Some s → step_digit format nf s < ways counts format s) →
    ((j : ℕ) (s : Step) → slice_get steps j ≡ Some s → step_digit format ng s < ways counts format s) →
    ((j : ℕ) (s : Step) → slice_get steps j ≡ Some s → Compared (step_code format cf s) (step_code format cg s) (step_digit format nf s) (step_digit format ng s)) →
    Compared (flat_map (step_code format cf) steps) (flat_map (step_code format cg) steps) (place counts format nf steps) (place counts format ng steps)
steps_compared counts format cf cg nf ng [] lf lg h = equal refl refl
steps_compared counts format cf cg nf ng (s ∷ steps) lf lg h =
    joined (step_code format cf s) (step_code format cg s) (flat_map (step_code format cf) steps) (flat_map (step_code format cg) steps)
    (step_digit format nf s) (step_digit format ng s) (place counts format nf steps) (place counts format ng steps) (plan_ways counts format steps)
    (h 0 s refl)
    (steps_compared counts format cf cg nf ng steps (λ j. lf (suc j)) (λ j. lg (suc j)) (λ j. h (suc j)))
    (place_below counts format nf steps (λ j. lf (suc j))) (place_below counts format ng steps (λ j. lg (suc j)))

module _ (methods : List Method) (cert : Entries) (counts : List ℕ) (are : AreCounts methods cert counts) where
  inner_code_is : (format : Format) (f : Filling) (i c : ℕ) (inner : Filling) → called_at format i ≡ Some c → inner_at f i ≡ Some inner →
      step_code format (codes_in methods cert f) (Call i) ≡ code methods cert inner c
  inner_code_is format f i c inner e e' =
      shown_is [] (called_at format i) (option_and_then (λ g. g.inner) (slice_get (codes_in methods cert f) i)) c (code methods cert inner) e
      (inner_shown (code methods cert) (fields_of f) i ∙ ap (option_map (code methods cert)) e')

  number_shown : (f : Filling) (i : ℕ) → num (shown_bits (slice_get (codes_in methods cert f) i)) ∷ [] ≡ num (shown_bits (slice_get (numbers_in methods cert counts f) i)) ∷ []
  number_shown f i = ap (λ z. num z ∷ []) (bits_shown (code methods cert) (number methods cert counts) (fields_of f) i)

  -- one step of a plan
  step_compared : (format : Format) (plan : List Step) (f g : Filling) →
      ((j i : ℕ) → slice_get plan j ≡ Some (Call i) → (c : ℕ) × (x : Filling) × (y : Filling) × (called_at format i ≡ Some c) × (inner_at f i ≡ Some x) × (inner_at g i ≡ Some y)
      × (Compared (code methods cert x c) (code methods cert y c) (number methods cert counts x c) (number methods cert counts y c))) →
      (j : ℕ) (s : Step) → slice_get plan j ≡ Some s →
      Compared (step_code format (codes_in methods cert f) s) (step_code format (codes_in methods cert g) s) (step_digit format (numbers_in methods cert counts f) s) (step_digit format (numbers_in methods cert counts g) s)
  step_compared format plan f g h j (Choose i) e =
      let a = num (shown_bits (slice_get (numbers_in methods cert counts f) i)) in
      let b = num (shown_bits (slice_get (numbers_in methods cert counts g) i)) in
      compared_same (a ∷ []) (step_code format (codes_in methods cert f) (Choose i)) (b ∷ []) (step_code format (codes_in methods cert g) (Choose i)) a a b b (number_shown f i) (number_shown g i) refl refl (order.chosen a b)
  step_compared format plan f g h j (Call i) e =
      let c = h j i e in
      compared_same (code methods cert c.1 c.0) (step_code format (codes_in methods cert f) (Call i)) (code methods cert c.2 c.0) (step_code format (codes_in methods cert g) (Call i))
      (number methods cert counts c.1 c.0) (step_digit format (numbers_in methods cert counts f) (Call i)) (number methods cert counts c.2 c.0) (step_digit format (numbers_in methods cert counts g) (Call i))
      (inner_code_is format f i c.0 c.1 c.3 c.4) (inner_code_is format g i c.0 c.2 c.3 c.5)
      (digit_is methods cert counts are format f i c.0 c.1 c.3 c.4) (digit_is methods cert counts are format g i c.0 c.2 c.3 c.5) c.6
  step_compared format plan f g h j (Take i) e = equal refl refl
  step_compared format plan f g h j (LibraryUp i) e = equal refl refl
  step_compared format plan f g h j (LibraryDown i) e = equal refl refl
  step_compared format plan f g h j (MethodLength i side) e = equal refl refl
  step_compared format plan f g h j (ConstraintLength i side n) e = equal refl refl
  step_compared format plan f g h j (Solve i n) e = equal refl refl
  step_compared format plan f g h j (Ask i) e = equal refl refl

  code_by : (k : ℕ) (f : Filling) (format : Format) (plans : Plans) → format_at methods k (out-Filling f).format ≡ Some format → write_plan cert k (out-Filling f).format ≡ Some plans →
      code methods cert f k ≡ (out-Filling f).format ∷ flat_map (step_code format (codes_in methods cert f)) plans.write
  code_by k f format plans e e' =
      code_is methods cert k f
      ∙ ap (λ z. (out-Filling f).format ∷ plan_code (codes_in methods cert f) z (write_plan cert k (out-Filling f).format)) e
      ∙ ap (λ z. (out-Filling f).format ∷ plan_code (codes_in methods cert f) (Some format) z) e'

  -- where the formats differ
  apart : (k : ℕ) (f g : Filling) → Parts methods cert counts k f → Parts methods cert counts k g → (out-Filling f).format < (out-Filling g).format →
      (number methods cert counts f k < number methods cert counts g k) × (order.Strictly (code methods cert f k) (code methods cert g k))
  apart k f g p q l =
      let a = number_by methods cert counts k f p.format p.plans p.format_is p.plans_is in
      let b = number_by methods cert counts k g q.format q.plans q.format_is q.plans_is in
      let h = place_below counts p.format (numbers_in methods cert counts f) p.plans.write (digits methods cert counts are k f p) in
      let w = before_next methods cert counts k (out-Filling f).format p.format p.plans p.format_is p.plans_is (out-Filling g).format l in
      let s = strictly_first (out-Filling f).format (out-Filling g).format (flat_map (step_code p.format (codes_in methods cert f)) p.plans.write) (flat_map (step_code q.format (codes_in methods cert g)) q.plans.write) l in
      let sf : order.Strictly (code methods cert f k) ((out-Filling g).format ∷ flat_map (step_code q.format (codes_in methods cert g)) q.plans.write) =
      subst (λ z. order.Strictly z ((out-Filling g).format ∷ flat_map (step_code q.format (codes_in methods cert g)) q.plans.write)) (sym (code_by k f p.format p.plans p.format_is p.plans_is)) s in
      (omega (arith, a, b, h, w), subst (λ z. order.Strictly (code methods cert f k) z) (sym (code_by k g q.format q.plans q.format_is q.plans_is)) sf)

  -- where they are the same
  alike : (k : ℕ) (f g : Filling) (p : Parts methods cert counts k f) → Parts methods cert counts k g → (out-Filling f).format ≡ (out-Filling g).format →
      ((j i : ℕ) → slice_get p.plans.write j ≡ Some (Call i) → (c : ℕ) × (x : Filling) × (y : Filling) × (called_at p.format i ≡ Some c) × (inner_at f i ≡ Some x) × (inner_at g i ≡ Some y)
      × (Compared (code methods cert x c) (code methods cert y c) (number methods cert counts x c) (number methods cert counts y c))) →
      Compared (code methods cert f k) (code methods cert g k) (number methods cert counts f k) (number methods cert counts g k)
  alike k f g p q e h =
      let format_g : format_at methods k (out-Filling g).format ≡ Some p.format = ap (format_at methods k) (sym e) ∙ p.format_is in
      let plans_g : write_plan cert k (out-Filling g).format ≡ Some p.plans = ap (write_plan cert k) (sym e) ∙ p.plans_is in
      let same_format : q.format ≡ p.format = let a = q.format_is in cc in
      let same_plans : q.plans ≡ p.plans = let a = q.plans_is in cc in
      let below_g = subst (λ (z : Format). (j : ℕ) (s : Step) → slice_get p.plans.write j ≡ Some s → step_digit z (numbers_in methods cert counts g) s < ways counts z s) same_format
      (subst (λ (z : Plans). (j : ℕ) (s : Step) → slice_get z.write j ≡ Some s → step_digit q.format (numbers_in methods cert counts g) s < ways counts q.format s) same_plans (digits methods cert counts are k g q)) in
      compared_same ((out-Filling f).format ∷ flat_map (step_code p.format (codes_in methods cert f)) p.plans.write) (code methods cert f k)
      ((out-Filling g).format ∷ flat_map (step_code p.format (codes_in methods cert g)) p.plans.write) (code methods cert g k)
      (ways_before methods cert counts k (out-Filling f).format + place counts p.format (numbers_in methods cert counts f) p.plans.write) (number methods cert counts f k)
      (ways_before methods cert counts k (out-Filling g).format + place counts p.format (numbers_in methods cert counts g) p.plans.write) (number methods cert counts g k)
      (code_by k f p.format p.plans p.format_is p.plans_is) (code_by k g p.format p.plans format_g plans_g)
      (number_by methods cert counts k f p.format p.plans p.format_is p.plans_is) (number_by methods cert counts k g p.format p.plans format_g plans_g)
      (headed (out-Filling f).format (out-Filling g).format (flat_map (step_code p.format (codes_in methods cert f)) p.plans.write) (flat_map (step_code p.format (codes_in methods cert g)) p.plans.write)
      (ways_before methods cert counts k (out-Filling f).format) (ways_before methods cert counts k (out-Filling g).format)
      (place counts p.format (numbers_in methods cert counts f) p.plans.write) (place counts p.format (numbers_in methods cert counts g) p.plans.write)
      e (ap (ways_before methods cert counts k) e)
      (steps_compared counts p.format (codes_in methods cert f) (codes_in methods cert g) (numbers_in methods cert counts f) (numbers_in methods cert counts g) p.plans.write
      (digits methods cert counts are k f p) below_g (step_compared p.format p.plans.write f g h)))

  pub compare : {k : ℕ} {f : Filling} → IsCandidate methods cert counts k f → (g : Filling) → IsCandidate methods cert counts k g →
      Compared (code methods cert f k) (code methods cert g k) (number methods cert counts f k) (number methods cert counts g k)
  compare {k} {f} (candidate format plans format_is plans_is chosen calls inner) g h =
      let p : Parts methods cert counts k f = record { format = format; plans = plans; format_is = format_is; plans_is = plans_is; chosen = chosen; calls = calls; inner = inner } in
      let q = parts h in
      elim (cases_lt (out-Filling f).format (out-Filling g).format) [
        | inl below ↦ let a = apart k f g p q below in lower a.0 a.1
        | inr past ↦ elim (cases_lt (out-Filling g).format (out-Filling f).format) [
          | inl above ↦ let a = apart k g f q p above in higher a.0 a.1
          | inr under ↦
              let e : (out-Filling f).format ≡ (out-Filling g).format = omega (arith, past, under) in
              let format_g : format_at methods k (out-Filling g).format ≡ Some format = ap (format_at methods k) (sym e) ∙ format_is in
              let plans_g : write_plan cert k (out-Filling g).format ≡ Some plans = ap (write_plan cert k) (sym e) ∙ plans_is in
              let same_format : q.format ≡ format = let a = q.format_is in cc in
              let same_plans : q.plans ≡ plans = let a = q.plans_is in cc in
              alike k f g p q e (λ j i at.
              let at_g : slice_get q.plans.write j ≡ Some (Call i) = ap (λ (z : Plans). slice_get z.write j) same_plans ∙ at in
              let c = calls j i at in
              let d = q.calls j i at_g in
              let calls_g : called_at q.format i ≡ Some c.method = ap (λ z. called_at z i) same_format ∙ c.calls in
              (c.method, c.inner, d.inner, c.calls, c.filled, d.filled, compare (inner j i c.method c.inner at c.calls c.filled) d.inner (q.inner j i c.method d.inner at_g calls_g d.filled)))
        ]
      ]

  pub same_order : (k : ℕ) (f g : Filling) → IsCandidate methods cert counts k f → IsCandidate methods cert counts k g →
      (number methods cert counts f k ≤ number methods cert counts g k) ↔ IsUpTo (code methods cert f k) (code methods cert g k)
  same_order k f g h h' =
      let c = compare h g h' in (
        up_to (code methods cert f k) (code methods cert g k) (number methods cert counts f k) (number methods cert counts g k) c,
        up_back (code methods cert f k) (code methods cert g k) (number methods cert counts f k) (number methods cert counts g k) c,
      )

  pub first_is_best : (top : ℕ) (ctx : Context) (it : Item) →
      ((g : Filling) → FitsTop methods top ctx g → item g ≡ it → IsCandidate methods cert counts top g) →
      (f : Filling) → FitsTop methods top ctx f → item f ≡ it →
      ((g : Filling) → FitsTop methods top ctx g → item g ≡ it → number methods cert counts g top ≤ number methods cert counts f top → g ≡ f) ↔ Best methods cert top ctx it f
  first_is_best top ctx it are_candidates f fitting has = (
    λ h. record { fits = fitting; has = has; first = λ g fits_g has_g up. h g fits_g has_g ((same_order top g f (are_candidates g fits_g has_g) (are_candidates f fitting has)).1 up) },
    λ b g fits_g has_g le. b.first g fits_g has_g ((same_order top g f (are_candidates g fits_g has_g) (are_candidates f fitting has)).0 le),
  )
