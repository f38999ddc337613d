-- The numbers that words spell.
use Rattle.std.proofs.Common.{◌≡◌, ◌∙◌, sym, ap, subst, refl, ℕ, suc, ◌<◌, ◌^◌, ◌&&◌, Bool, true, false, List, [], ◌∷◌, Some, None, nat_lt, arith, cond, drop, ◌==◌, FitsSigned}
use Rattle.std.proofs.lemmas.Int.{ints}
use Rattle.std.specs.Prelude.{decimal, ℤ, pos, negsuc, neg_ℤ, Result, Err, slice_index}
use Rattle.std.specs.Fmt.{signed_decimal}
use Rattle.std.specs.Str.{bytes_eq}
use Rattle.std.specs.Str.Parse.{digits_value, signed_digits_value, IsNumeral, without_leading_sign, ParsesSigned}
use Rattle.std.specs.Char.{digit_value}
use Rattle.std.proofs.lemmas.Bool.Decides.{Decides-eqb}
use Rattle.std.proofs.lemmas.Result.{OkIff-at_err}
use mir.Syntax.{w128}
use Rattle.std.proofs.lemmas.Bool.{false≢true, ltb-true, lt-ltb}
use Rattle.std.proofs.lemmas.Fmt.{decimal_is_IsNumeral_wide}
use Rattle.std.proofs.lemmas.Slice.Eq.{bytes_eq-Decides}
use Rattle.cert_text.specs.Drafts.{when, number_below, is_wide, constant_of}
use Rattle.cert_types.specs.Kept.{IsWide}

pub both_true : (a b : Bool) → (a && b) ≡ true → (a ≡ true) × (b ≡ true)
both_true true b h = (refl, h)
both_true false b h = absurd (false≢true h)

pub when_true : {A : Type 0} (b : Bool) (x y : A) → when b x ≡ Some y → (b ≡ true) × (x ≡ y)
when_true true x y h = (refl, cc)
when_true false x y h = absurd cc

pub when_none : {A : Type 0} (b : Bool) (x : A) → (b ≡ true → ⊥) → when b x ≡ None
when_none true x h = absurd (h refl)
when_none false x h = refl

-- ---- without a sign

below_at : (limit n v : ℕ) (word : List ℕ) → v ≡ n → n < 2 ^ 64 → n < limit → decimal n ≡ word → when (bytes_eq (decimal v) word && (nat_lt v limit && nat_lt v (2 ^ 64))) v ≡ Some n
below_at limit n v word e small h d =
    subst (λ w. when (bytes_eq (decimal w) word && (nat_lt w limit && nat_lt w (2 ^ 64))) w ≡ Some n) (sym e)
    (λ i. when ((bytes_eq-Decides (decimal n) word).1 d i && (lt-ltb n limit h i && lt-ltb n (2 ^ 64) small i)) n)

pub below_some : (limit n : ℕ) (word : List ℕ) → n < 2 ^ 64 → n < limit → decimal n ≡ word → number_below limit word ≡ Some n
below_some limit n word small h d = below_at limit n (digits_value 10 word) word (ap (digits_value 10) (sym d) ∙ (decimal_is_IsNumeral_wide n (omega arith)).1) small h d

pub below_means : (limit n : ℕ) (word : List ℕ) → number_below limit word ≡ Some n → (word ≡ decimal n) × (n < limit) × (n < 2 ^ 64)
below_means limit n word h =
    let w = when_true _ _ _ h in
    let b = both_true _ _ w.0 in
    let l = both_true _ _ b.1 in
    (sym ((bytes_eq-Decides _ _).0 b.0) ∙ ap decimal w.1, subst (λ x. x < limit) w.1 (ltb-true _ _ l.0), subst (λ x. x < 2 ^ 64) w.1 (ltb-true _ _ l.1))

pub below_none : (limit : ℕ) (word : List ℕ) → ((n : ℕ) → n < limit → n < 2 ^ 64 → word ≡ decimal n → ⊥) → number_below limit word ≡ None
below_none limit word h = when_none _ _ (λ t.
    let b = both_true _ _ t in
    let l = both_true _ _ b.1 in
    h (digits_value 10 word) (ltb-true _ _ l.0) (ltb-true _ _ l.1) (sym ((bytes_eq-Decides _ _).0 b.0)))

-- ---- with a sign

pub wide_true : (z : ℤ) → IsWide z → is_wide z ≡ true
wide_true (pos n) h = lt-ltb n (2 ^ 127) h
wide_true (negsuc n) h = lt-ltb n (2 ^ 127) h

pub true_wide : (z : ℤ) → is_wide z ≡ true → IsWide z
true_wide (pos n) h = ltb-true n (2 ^ 127) h
true_wide (negsuc n) h = ltb-true n (2 ^ 127) h

first_digit : (bs : List ℕ) → IsNumeral 10 bs → ((slice_index bs 0 == 45) ≡ false) × ((slice_index bs 0 == 43) ≡ false)
first_digit [] h = absurd (omega (arith, h.0))
first_digit (c ∷ cs) h = (by 45 (λ e. omega arith), by 43 (λ e. omega arith))
  where
    by : (d : ℕ) → (digit_value d < 10 → ⊥) → (c == d) ≡ false
    by d wrong = of (c == d) refl
      where
        of : (b : Bool) → (c == d) ≡ b → (c == d) ≡ false
        of true e = absurd (wrong (subst (λ x. digit_value x < 10) ((Decides-eqb c d).0 e) h.1.0))
        of false e = e

record Spelled (z : ℤ) (word : List ℕ) : Type 0 where
  numeral : IsNumeral 10 (without_leading_sign word)
  value : signed_digits_value 10 word ≡ z

spelled : (z : ℤ) → IsWide z → Spelled z (signed_decimal z)
spelled (pos n) h =
    let d = decimal_is_IsNumeral_wide n (omega arith) in
    let f = first_digit (decimal n) d.0 in
    let plain : without_leading_sign (decimal n) ≡ decimal n = λ i. cond (f.0 i) (drop 1 (decimal n)) (drop (cond (f.1 i) 1 0) (decimal n)) in
    record {
      numeral = subst (IsNumeral 10) (sym plain) d.0;
      value = (λ i. cond (f.0 i) (neg_ℤ (pos (digits_value 10 (plain i)))) (pos (digits_value 10 (plain i)))) ∙ ap pos d.1;
    }
spelled (negsuc n) h = let d = decimal_is_IsNumeral_wide (suc n) (omega arith) in record { numeral = d.0; value = ap (λ k. neg_ℤ (pos k)) d.1 }

wide_fits : (z : ℤ) → IsWide z → FitsSigned w128 z
wide_fits (pos n) h = record { sfits = omega (arith, ints) }
wide_fits (negsuc n) h = record { sfits = omega (arith, ints) }

constant_at : (z v : ℤ) (word : List ℕ) → v ≡ z → IsWide z → signed_decimal z ≡ word → when (bytes_eq (signed_decimal v) word && is_wide v) v ≡ Some z
constant_at z v word e h d =
    subst (λ w. when (bytes_eq (signed_decimal w) word && is_wide w) w ≡ Some z) (sym e)
    (λ i. when ((bytes_eq-Decides (signed_decimal z) word).1 d i && wide_true z h i) z)

pub constant_some : (z : ℤ) → IsWide z → constant_of (signed_decimal z) ≡ Some z
constant_some z h = constant_at z (signed_digits_value 10 (signed_decimal z)) (signed_decimal z) (spelled z h).value h refl

pub constant_means : (z : ℤ) (word : List ℕ) → constant_of word ≡ Some z → (word ≡ signed_decimal z) × IsWide z
constant_means z word h =
    let w = when_true _ _ _ h in
    let b = both_true _ _ w.0 in
    (sym ((bytes_eq-Decides _ _).0 b.0) ∙ ap signed_decimal w.1, subst IsWide w.1 (true_wide _ b.1))

-- what parses as no number spells none
pub unparsed : {E : Type 0} (word : List ℕ) (r : Result ℤ E) (d : E) → ParsesSigned w128 10 word r → r ≡ Err d → constant_of word ≡ None
unparsed word r d h is = when_none _ _ (λ t.
    let b = both_true _ _ t in
    let z = signed_digits_value 10 word in
    let wide = true_wide z b.1 in
    let same : signed_decimal z ≡ word = (bytes_eq-Decides _ _).0 b.0 in
    OkIff-at_err r _ _ d h is (subst (λ x. IsNumeral 10 (without_leading_sign x)) same (spelled z wide).numeral, wide_fits z wide))
