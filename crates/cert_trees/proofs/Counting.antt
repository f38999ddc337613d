-- Numbers up to the cap, and the counts that they are of.
use Rattle.std.proofs.Common.{◌≡◌, ◌∙◌, refl, sym, ap, subst, ℕ, zero, suc, ◌+◌, ◌-◌, ◌*◌, ◌^◌, ◌<◌, ◌≤◌, min, nat_le, nat_eq, Bool, true, false, List, [], ◌∷◌, ◌++◌, length, map, take, drop, get_or, replicate, arith}
use Rattle.std.specs.Prelude.{Option, Some, None, slice_get, slice_set, option_and_then, option_map, unwrap_or}
use Rattle.std.proofs.lemmas.Bool.{leb-true, leb-false, eqb-true, eqb-false}
use Rattle.std.proofs.lemmas.Nat.{mul-le}
use Rattle.std.proofs.lemmas.Option.{slice_get-map, slice_get_within, get_or_from_slice_get}
use Rattle.std.proofs.lemmas.List.{map-set, length-set, length-map, drop_more, drop_all}
use Rattle.sem_profile.specs.declared.profile.Field.{Field}
use Rattle.sem_profile.specs.declared.profile.Format.{Format}
use Rattle.sem_profile.specs.declared.profile.Method.{Method}
use Rattle.sem_profile.specs.Methods.{CallsMethod, IsOrder}
use Rattle.sem_profile.specs.Passes.{indexed}
use Rattle.sem_profile.proofs.PassesPlaces.{indexed-at, indexed-more}
use Rattle.cert_types.specs.declared.certificate.Step.{Step}
use Rattle.cert_types.specs.declared.certificate.FormatPlans.{FormatPlans}
use Rattle.cert_types.specs.Kept.{Entries}
use Rattle.cert_rules.specs.Rules.{choice}
use Rattle.cert_rules.specs.Counts.{ways, plan_ways, format_ways, method_ways, entry_ways, entry_at}
use Rattle.cert_rules.proofs.Counts.{entry_same}
use Rattle.cert_rules.specs.Capped.{capped, AreCapped, CappedBefore, CappedTells, EachIsCounted}

past : {A : Type 0} (xs : List A) (i : ℕ) → slice_get xs i ≡ None → length xs ≤ i
past [] i e = omega arith
past (x ∷ xs) zero e = absurd (cc)
past (x ∷ xs) (suc i) e = omega (arith, past xs i e)

rest_at : {A : Type 0} (xs : List A) (i : ℕ) (x : A) → slice_get xs i ≡ Some x → drop i xs ≡ x ∷ drop (i + 1) xs
rest_at xs i x at = drop_more xs i x (slice_get_within xs i x at) ∙ ap (λ y. y ∷ drop (i + 1) xs) (get_or_from_slice_get xs i x x at)

-- ---- products and sums

module _ (cap : ℕ) where
  cut_product : (a b : ℕ) → min (min a cap * b) cap ≡ min (a * b) cap
  cut_product a b = by (nat_le a cap) refl
    where
      above : (b : ℕ) → cap < a → min (cap * b) cap ≡ min (a * b) cap
      above zero lt = ap (λ n. min n cap) (omega arith)
      above (suc b) lt = let p : cap * 1 ≤ cap * suc b = mul-le cap 1 cap (suc b) (omega arith) (omega arith) in let q : a * 1 ≤ a * suc b = mul-le a 1 a (suc b) (omega arith) (omega arith) in
          let r : cap ≤ cap * suc b = omega (arith, p) in let s : cap ≤ a * suc b = omega (arith, q, lt) in omega (arith, r, s)

      by : (t : Bool) → nat_le a cap ≡ t → min (min a cap * b) cap ≡ min (a * b) cap
      by true e = let low : min a cap ≡ a = omega (arith, leb-true a cap e) in ap (λ n. min (n * b) cap) low
      by false e = let lt = leb-false a cap e in let high : min a cap ≡ cap = omega (arith, lt) in ap (λ n. min (n * b) cap) high ∙ above b lt

  cut_factor : (a b : ℕ) → min (a * min b cap) cap ≡ min (a * b) cap
  cut_factor a b = ap (λ n. min n cap) (omega arith) ∙ (cut_product b a ∙ ap (λ n. min n cap) (omega arith))

  product_on : (total newer rest w count whole : ℕ) → count ≡ min w cap → newer ≡ min (total * count) cap → min (total * (w * rest)) cap ≡ whole → min (newer * rest) cap ≡ whole
  product_on total newer rest w count whole is made so =
      ap (λ n. min (n * rest) cap) made ∙ (cut_product (total * count) rest ∙ (ap (λ n. min n cap) (omega arith) ∙ (ap (λ n. min (total * (n * rest)) cap) is ∙
      (sym (cut_factor total (min w cap * rest)) ∙ (ap (λ n. min (total * n) cap) (cut_product w rest) ∙ (cut_factor total (w * rest) ∙ so))))))

  sum_on : (total newer rest w count whole : ℕ) → count ≡ min w cap → newer ≡ min (total + count) cap → min (total + (w + rest)) cap ≡ whole → min (newer + rest) cap ≡ whole
  sum_on total newer rest w count whole is made so = omega (arith, is, made, so)

pub product_more : (total newer rest w count whole : ℕ) → count ≡ capped w → newer ≡ min (total * count) (2 ^ 64 - 1) → capped (total * (w * rest)) ≡ whole → capped (newer * rest) ≡ whole
product_more = product_on (2 ^ 64 - 1)

pub sum_more : (total newer rest w count whole : ℕ) → count ≡ capped w → newer ≡ min (total + count) (2 ^ 64 - 1) → capped (total + (w + rest)) ≡ whole → capped (newer + rest) ≡ whole
sum_more = sum_on (2 ^ 64 - 1)

pub product_done : (total whole : ℕ) → total < 2 ^ 64 → capped (total * 1) ≡ whole → total ≡ whole
product_done total whole small so = omega (arith, small, so)

pub sum_done : (total rest whole : ℕ) → total < 2 ^ 64 → rest ≡ 0 → capped (total + rest) ≡ whole → total ≡ whole
sum_done total rest whole small none so = omega (arith, small, none, so)

-- ---- steps

pub count_read : (counts exact : List ℕ) (o : Option ℕ) → counts ≡ map capped exact → unwrap_or (option_and_then (slice_get counts) o) 1 ≡ capped (unwrap_or (option_and_then (slice_get exact) o) 1)
count_read counts exact None is = refl
count_read counts exact (Some k) is = ap (λ xs. unwrap_or (slice_get xs k) 1) is ∙ (ap (λ o. unwrap_or o 1) (slice_get-map capped exact k) ∙ by (slice_get exact k))
  where
    by : (o : Option ℕ) → unwrap_or (option_map capped o) 1 ≡ capped (unwrap_or o 1)
    by None = refl
    by (Some n) = refl

pub choice_read : (format : Format) (tried : List (Option ℕ)) (i : ℕ) → tried ≡ indexed (choice format) 0 format.fields → option_and_then (λ o. o) (slice_get tried i) ≡ option_and_then (choice format i) (slice_get format.fields i)
choice_read format tried i is =
    ap (λ xs. option_and_then (λ o. o) (slice_get xs i)) is ∙ (ap (option_and_then (λ o. o)) (indexed-at (choice format) 0 format.fields i) ∙
    (ap (λ k. option_and_then (λ o. o) (option_map (choice format k) (slice_get format.fields i))) (omega arith) ∙ by (slice_get format.fields i)))
  where
    by : (o : Option Field) → option_and_then (λ o. o) (option_map (choice format i) o) ≡ option_and_then (choice format i) o
    by None = refl
    by (Some d) = refl

pub plan_more : (exact : List ℕ) (format : Format) (steps : List Step) (i : ℕ) (x : Step) (total newer count whole : ℕ) → slice_get steps i ≡ Some x → count ≡ capped (ways exact format x) → newer ≡ min (total * count) (2 ^ 64 - 1) →
    capped (total * plan_ways exact format (drop i steps)) ≡ whole → capped (newer * plan_ways exact format (drop (i + 1) steps)) ≡ whole
plan_more exact format steps i x total newer count whole at is made so =
    product_more total newer (plan_ways exact format (drop (i + 1) steps)) (ways exact format x) count whole is made (ap (λ xs. capped (total * plan_ways exact format xs)) (sym (rest_at steps i x at)) ∙ so)

pub plan_done : (exact : List ℕ) (format : Format) (steps : List Step) (i total whole : ℕ) → length steps ≤ i → total < 2 ^ 64 → capped (total * plan_ways exact format (drop i steps)) ≡ whole → total ≡ whole
plan_done exact format steps i total whole past small so = product_done total whole small (ap (λ xs. capped (total * plan_ways exact format xs)) (sym (drop_all i steps past)) ∙ so)

-- ---- formats

no_entries : (exact : List ℕ) (formats : List Format) → method_ways exact formats [] ≡ 0
no_entries exact [] = refl
no_entries exact (f ∷ formats) = refl

pub formats_more : (exact : List ℕ) (formats : List Format) (entries : List FormatPlans) (i : ℕ) (f : Format) (entry : FormatPlans) (total newer count whole : ℕ) → slice_get formats i ≡ Some f → slice_get entries i ≡ Some entry →
    count ≡ capped (format_ways exact f entry.plans) → newer ≡ min (total + count) (2 ^ 64 - 1) → capped (total + method_ways exact (drop i formats) (drop i entries)) ≡ whole →
    capped (newer + method_ways exact (drop (i + 1) formats) (drop (i + 1) entries)) ≡ whole
formats_more exact formats entries i f entry total newer count whole f_at at is made so =
    sum_more total newer (method_ways exact (drop (i + 1) formats) (drop (i + 1) entries)) (format_ways exact f entry.plans) count whole is made
    (sym (λ j. capped (total + method_ways exact (rest_at formats i f f_at j) (rest_at entries i entry at j))) ∙ so)

pub entries_done : (exact : List ℕ) (formats : List Format) (entries : List FormatPlans) (i total whole : ℕ) → slice_get entries i ≡ None → total < 2 ^ 64 →
    capped (total + method_ways exact (drop i formats) (drop i entries)) ≡ whole → total ≡ whole
entries_done exact formats entries i total whole none small so =
    sum_done total (method_ways exact (drop i formats) (drop i entries)) whole small (ap (method_ways exact (drop i formats)) (drop_all i entries (past entries i none)) ∙ no_entries exact (drop i formats)) so

pub formats_done : (exact : List ℕ) (formats : List Format) (entries : List FormatPlans) (i total whole : ℕ) → length formats ≤ i → total < 2 ^ 64 →
    capped (total + method_ways exact (drop i formats) (drop i entries)) ≡ whole → total ≡ whole
formats_done exact formats entries i total whole end small so =
    sum_done total (method_ways exact (drop i formats) (drop i entries)) whole small (ap (λ xs. method_ways exact xs (drop i entries)) (drop_all i formats end)) so

pub choices_more : (format : Format) (items : List Field) (i n : ℕ) (x : Field) (found newer : List (Option ℕ)) (r : Option ℕ) → items ≡ format.fields → i < length items → x ≡ get_or items i x → n ≡ length found →
    r ≡ choice format n x → newer ≡ found ++ r ∷ [] → found ≡ indexed (choice format) 0 (take i format.fields) → newer ≡ indexed (choice format) 0 (take (i + 1) format.fields)
choices_more format items i n x found newer r same lt is here chosen made so =
    made ∙ (ap (λ o. found ++ o ∷ []) (chosen ∙ ap (λ k. choice format k x) here) ∙
    indexed-more (choice format) format.fields i x found (subst (λ xs. i < length xs) same lt) (is ∙ ap (λ xs. get_or xs i x) same) so)

-- ---- the loop over the methods

zeros_capped : (n : ℕ) → replicate n 0 ≡ map capped (replicate n 0)
zeros_capped zero = refl
zeros_capped (suc n) = ap (λ xs. 0 ∷ xs) (zeros_capped n)

zeros_length : (n : ℕ) → length {A = ℕ} (replicate n 0) ≡ n
zeros_length zero = refl
zeros_length (suc n) = ap suc (zeros_length n)

set_here : (xs : List ℕ) (k y n : ℕ) → slice_get (slice_set xs k y) k ≡ Some n → y ≡ n
set_here [] k y n e = absurd (cc)
set_here (x ∷ xs) zero y n e = cc
set_here (x ∷ xs) (suc k) y n e = set_here xs k y n e

set_apart : (xs : List ℕ) (k j y : ℕ) → (j ≡ k → ⊥) → slice_get (slice_set xs k y) j ≡ slice_get xs j
set_apart [] k j y ne = refl
set_apart (x ∷ xs) zero zero y ne = absurd (ne refl)
set_apart (x ∷ xs) zero (suc j) y ne = refl
set_apart (x ∷ xs) (suc k) zero y ne = refl
set_apart (x ∷ xs) (suc k) (suc j) y ne = set_apart xs k j y (λ e. ne (ap suc e))

module _ (methods : List Method) (cert : Entries) (order : List ℕ) where
  pub none_counted : (found : List ℕ) → found ≡ replicate (length methods) 0 → CappedBefore methods cert order 0 found
  none_counted found is = record {
    counts = replicate (length methods) 0;
    count = zeros_length (length methods);
    each = is ∙ zeros_capped (length methods);
    right = λ i k n m lt. absurd (omega (arith, lt));
  }

  pub no_method : (place k : ℕ) (found : List ℕ) → slice_get order place ≡ Some k → slice_get methods k ≡ None → CappedBefore methods cert order place found → CappedBefore methods cert order (place + 1) found
  no_method place k found stands none so = record {
    counts = so.counts;
    count = so.count;
    each = so.each;
    right = λ i j n m lt at m_at n_at. by i j n m lt at m_at n_at (nat_eq i place) refl;
  }
    where
      by : (i j n : ℕ) (m : Method) → i < place + 1 → slice_get order i ≡ Some j → slice_get methods j ≡ Some m → slice_get so.counts j ≡ Some n → (b : Bool) → nat_eq i place ≡ b → n ≡ entry_ways so.counts m.formats (entry_at cert j)
      by i j n m lt at m_at n_at true e =
          let same : i ≡ place = eqb-true i place e in
          let here : Some j ≡ Some k = sym at ∙ (ap (slice_get order) same ∙ stands) in
          let one : j ≡ k = cc in
          let wrong : Some m ≡ None = sym m_at ∙ (ap (slice_get methods) one ∙ none) in
          absurd (cc)
      by i j n m lt at m_at n_at false e = let apart = eqb-false i place e in so.right i j n m (omega (arith, lt, apart)) at m_at n_at

  module _ (ordered : IsOrder methods order) (place k : ℕ) (m : Method) (stands : slice_get order place ≡ Some k) (m_at : slice_get methods k ≡ Some m) where
    -- what stands before the place is another method
    other : (p j : ℕ) → p < place → slice_get order p ≡ Some j → j ≡ k → ⊥
    other p j lt at same =
        let twice = ordered.once p place k (slice_get_within methods k m m_at) (at ∙ ap Some same) stands in
        omega (arith, lt, twice)

    -- up to the place no method calls this one, so its count changes no other
    unchanged : (counts : List ℕ) (y i j : ℕ) (n : Method) → i ≤ place → slice_get order i ≡ Some j → slice_get methods j ≡ Some n → entry_ways counts n.formats (entry_at cert j) ≡ entry_ways (slice_set counts k y) n.formats (entry_at cert j)
    unchanged counts y i j n le at n_at =
        entry_same counts (slice_set counts k y) n.formats
        (λ f_place format f_at place' q d es d_at is.
        let calls : CallsMethod n q = record { format = format; format_place = f_place; format_at = f_at; field = d; field_place = place'; field_at = d_at; arguments = es; is_call = is } in
        let p = ordered.before i j q n at n_at calls in
        sym (set_apart counts k q y (other p.0 q (omega (arith, p.1, le)) p.2)))
        (entry_at cert j)

    pub one_more : (found newer : List ℕ) (count : ℕ) (so : CappedBefore methods cert order place found) → count ≡ capped (entry_ways so.counts m.formats (entry_at cert k)) → newer ≡ slice_set found k count →
        CappedBefore methods cert order (place + 1) newer
    one_more found newer count so is made =
        let own = entry_ways so.counts m.formats (entry_at cert k) in
        record {
          counts = slice_set so.counts k own;
          count = length-set so.counts k own ∙ so.count;
          each = made ∙ ((λ i. slice_set (so.each i) k (is i)) ∙ sym (map-set capped so.counts k own));
          right = λ i j n q lt at q_at n_at. by i j n q lt at q_at n_at (nat_eq i place) refl;
        }
      where
        by : (i j n : ℕ) (q : Method) → i < place + 1 → slice_get order i ≡ Some j → slice_get methods j ≡ Some q → slice_get (slice_set so.counts k (entry_ways so.counts m.formats (entry_at cert k))) j ≡ Some n →
            (b : Bool) → nat_eq i place ≡ b → n ≡ entry_ways (slice_set so.counts k (entry_ways so.counts m.formats (entry_at cert k))) q.formats (entry_at cert j)
        by i j n q lt at q_at n_at true e =
            let own = entry_ways so.counts m.formats (entry_at cert k) in
            let same : i ≡ place = eqb-true i place e in
            let here : Some j ≡ Some k = sym at ∙ (ap (slice_get order) same ∙ stands) in
            let one : j ≡ k = cc in
            let this : Some q ≡ Some m = sym q_at ∙ (ap (slice_get methods) one ∙ m_at) in
            let q_is : q ≡ m = cc in
            let value : own ≡ n = set_here so.counts k own n (ap (slice_get (slice_set so.counts k own)) (sym one) ∙ n_at) in
            sym value ∙ ((λ x. entry_ways so.counts (sym q_is x).formats (entry_at cert (sym one x))) ∙ unchanged so.counts own i j q (omega (arith, lt)) at q_at)
        by i j n q lt at q_at n_at false e =
            let own = entry_ways so.counts m.formats (entry_at cert k) in
            let apart = eqb-false i place e in
            let below : i < place = omega (arith, lt, apart) in
            so.right i j n q below at q_at (sym (set_apart so.counts k j own (other i j below at)) ∙ n_at) ∙ unchanged so.counts own i j q (omega (arith, lt)) at q_at

  pub all_counted : (place : ℕ) (found : List ℕ) → IsOrder methods order → length order ≤ place → CappedBefore methods cert order place found → AreCapped methods cert found
  all_counted place found ordered past so = record {
    counts = so.counts;
    are_counts = record {
      each = so.count;
      right = λ k n m m_at n_at.
          let p = ordered.each k (slice_get_within methods k m m_at) in
          so.right p.0 k n m (omega (arith, past, slice_get_within order p.0 k p.1)) p.1 m_at n_at;
    };
    each = so.each;
  }

-- ---- what the numbers tell

pub capped_tells : CappedTells
capped_tells methods cert found are top k n at n_at =
    let both : Some k ≡ Some (capped n) = sym at ∙ (ap (λ xs. slice_get xs top) are.each ∙ (slice_get-map capped are.counts top ∙ ap (option_map capped) n_at)) in
    let same : k ≡ capped n = cc in
    (λ le. omega (arith, same, le), λ lt. omega (arith, same, lt))

pub each_is_counted : EachIsCounted
each_is_counted methods cert found are = ap length are.each ∙ (length-map are.counts capped ∙ are.are_counts.each)
