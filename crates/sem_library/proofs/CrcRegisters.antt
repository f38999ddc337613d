use Rattle.std.proofs.Common.{◌≡◌, refl, ℕ, zero, suc, ◌+◌, ◌-◌, ◌*◌, ◌/◌, ◌%◌, ◌^◌, ◌<◌, ◌≤◌, ◌==◌, Bool, true, false, cond, List, [], ◌∷◌, ◌++◌, length, take, drop, replicate, sym, ap, ◌∙◌, arith}
use Rattle.std.specs.Prelude.{fold, reverse, bit_xor, slice_index, unwrap_or, Option, Some, None}
use Rattle.std.specs.Option.{SomeIff}
use Rattle.std.proofs.lemmas.List.{reverse-append, length-take-le, length-drop, drop-drop}
use Rattle.std.proofs.lemmas.List.Sums.{fold-append}
use Rattle.std.specs.Int.Bits.{xor_assoc, xor_self, xor_zero_r}
use Rattle.std.proofs.lemmas.Nat.{xor_lt, xor_comm, xor_mod, xor_shr, xor_block, shr-shr}
use Rattle.std.proofs.Math.Nat.{div-eq_of_lt}
use Rattle.std.proofs.Math.Pow.{pow_mono}
use Rattle.sem_bits.specs.Number.{num, enc, bit}
use Rattle.sem_bits.proofs.Numbers.{enc-num, enc_nil}
use Rattle.sem_bits.proofs.NumberWindows.{part_padded}
use Rattle.sem_library.specs.Crc.{crc_step, four_steps, IsTable, crc_register, low_bits_first}

-- the bits of an octet, from its last to its first
turned_more : (n v : ℕ) → reverse (enc (suc n) v) ≡ (v % 2 == 1) ∷ reverse (enc n (v / 2))
unfolding enc
turned_more n v = reverse-append (enc n (v / 2)) ((v % 2 == 1) ∷ [])

-- the register before an octet's bits, after one more of them, and after all
octet_first : (poly register o : ℕ) → fold (crc_step poly) register (reverse (enc (8 - 0) (o / 2 ^ 0))) ≡ fold (crc_step poly) register (reverse (enc 8 o))
octet_first poly register o =
    let e : o / 1 ≡ o = omega arith in
    ap (λ v. fold (crc_step poly) register (reverse (enc 8 v))) e

octet_more : (poly register new o k : ℕ) → k < 8 → new ≡ crc_step poly register ((o / 2 ^ k) % 2 == 1)
    → fold (crc_step poly) new (reverse (enc (8 - (k + 1)) (o / 2 ^ (k + 1)))) ≡ fold (crc_step poly) register (reverse (enc (8 - k) (o / 2 ^ k)))
octet_more poly register new o k h is =
    let n : 8 - k ≡ suc (8 - (k + 1)) = omega arith in
    (λ i. fold (crc_step poly) (is i) (reverse (enc (8 - (k + 1)) (sym (shr-shr o k 1) i))))
    ∙ sym (ap (λ m. fold (crc_step poly) register (reverse (enc m (o / 2 ^ k)))) n ∙ ap (fold (crc_step poly) register) (turned_more (8 - (k + 1)) (o / 2 ^ k)))

octet_last : (poly register o k : ℕ) → 8 ≤ k → fold (crc_step poly) register (reverse (enc (8 - k) (o / 2 ^ k))) ≡ register
octet_last poly register o k h =
    let z : 8 - k ≡ 0 = omega arith in
    ap (λ m. fold (crc_step poly) register (reverse (enc m (o / 2 ^ k)))) z ∙ ap (λ l. fold (crc_step poly) register (reverse l)) (enc_nil (o / 2 ^ k))

-- ---- the register with the bits of an octet that are left over it

-- one more of them
mixed_step : (poly mixed left : ℕ) → bit_xor (crc_step poly mixed false) (left / 2) ≡ crc_step poly (bit_xor mixed left) (left % 2 == 1)
mixed_step poly mixed left = go (mixed % 2) (left % 2) refl refl (omega arith) (omega arith)
  where
    low : ℕ → ℕ
    low d = bit_xor (cond (d == 0) (mixed / 2) (bit_xor (mixed / 2) poly)) (left / 2)

    high : ℕ → ℕ → ℕ → ℕ
    high t e y = cond (t == bit (e == 1)) y (bit_xor y poly)

    turned : bit_xor (bit_xor (mixed / 2) poly) (left / 2) ≡ bit_xor (bit_xor (mixed / 2) (left / 2)) poly
    turned = xor_assoc (mixed / 2) poly (left / 2) ∙ ap (bit_xor (mixed / 2)) (xor_comm poly (left / 2)) ∙ sym (xor_assoc (mixed / 2) (left / 2) poly)

    cases : (d e : ℕ) → d < 2 → e < 2 → low d ≡ high (bit_xor d e) e (bit_xor (mixed / 2) (left / 2))
    cases zero zero p q = refl
    cases zero (suc zero) p q = refl
    cases zero (suc (suc e)) p q = absurd (omega arith)
    cases (suc zero) zero p q = turned
    cases (suc zero) (suc zero) p q = turned
    cases (suc zero) (suc (suc e)) p q = absurd (omega arith)
    cases (suc (suc d)) e p q = absurd (omega arith)

    go : (d e : ℕ) → mixed % 2 ≡ d → left % 2 ≡ e → d < 2 → e < 2 → low (mixed % 2) ≡ high (bit_xor mixed left % 2) (left % 2) (bit_xor mixed left / 2)
    go d e is and p q =
        ap low is ∙ cases d e p q ∙ (λ i. high (sym (xor_mod mixed left 1 ∙ (λ j. bit_xor (is j) (and j))) i) (sym and i) (sym (xor_shr mixed left 1) i))

mixed_first : (poly before o wide : ℕ) → wide ≡ o → fold (crc_step poly) (bit_xor (bit_xor before wide) (o / 2 ^ 0)) (reverse (enc (8 - 0) (o / 2 ^ 0))) ≡ fold (crc_step poly) before (reverse (enc 8 o))
mixed_first poly before o wide is =
    let whole : o / 1 ≡ o = omega arith in
    let same : bit_xor (bit_xor before wide) (o / 1) ≡ before =
    (λ i. bit_xor (bit_xor before (is i)) (whole i)) ∙ xor_assoc before o o ∙ ap (bit_xor before) (xor_self o) ∙ xor_zero_r before in
    ap (λ r. fold (crc_step poly) r (reverse (enc 8 (o / 1)))) same ∙ octet_first poly before o

mixed_more : (poly mixed new o k : ℕ) → k < 8 → new ≡ crc_step poly mixed false
    → fold (crc_step poly) (bit_xor new (o / 2 ^ (k + 1))) (reverse (enc (8 - (k + 1)) (o / 2 ^ (k + 1)))) ≡ fold (crc_step poly) (bit_xor mixed (o / 2 ^ k)) (reverse (enc (8 - k) (o / 2 ^ k)))
mixed_more poly mixed new o k h is =
    octet_more poly (bit_xor mixed (o / 2 ^ k)) (bit_xor new (o / 2 ^ (k + 1))) o k h
    (ap (λ z. bit_xor z (o / 2 ^ (k + 1))) is ∙ ap (bit_xor (crc_step poly mixed false)) (sym (shr-shr o k 1)) ∙ mixed_step poly mixed (o / 2 ^ k))

mixed_last : (poly mixed o k : ℕ) → 8 ≤ k → o < 2 ^ 8 → fold (crc_step poly) (bit_xor mixed (o / 2 ^ k)) (reverse (enc (8 - k) (o / 2 ^ k))) ≡ mixed
mixed_last poly mixed o k h small =
    let none : o / 2 ^ k ≡ 0 = div-eq_of_lt (omega (arith, small, pow_mono h)) in
    octet_last poly (bit_xor mixed (o / 2 ^ k)) o k h ∙ ap (bit_xor mixed) none ∙ xor_zero_r mixed

-- an octet is two times four bits
pub octet_mixed : (poly before o wide : ℕ) → wide ≡ o → o < 2 ^ 8 → four_steps poly (four_steps poly (bit_xor before wide)) ≡ fold (crc_step poly) before (reverse (enc 8 o))
octet_mixed poly before o wide is small =
    let s : ℕ → ℕ = λ r. crc_step poly r false in
    let m : ℕ = bit_xor before wide in
    sym (mixed_last poly (s (s (s (s (s (s (s (s m)))))))) o 8 (omega arith) small)
    ∙ mixed_more poly (s (s (s (s (s (s (s m))))))) (s (s (s (s (s (s (s (s m)))))))) o 7 (omega arith) refl
    ∙ mixed_more poly (s (s (s (s (s (s m)))))) (s (s (s (s (s (s (s m))))))) o 6 (omega arith) refl
    ∙ mixed_more poly (s (s (s (s (s m))))) (s (s (s (s (s (s m)))))) o 5 (omega arith) refl
    ∙ mixed_more poly (s (s (s (s m)))) (s (s (s (s (s m))))) o 4 (omega arith) refl
    ∙ mixed_more poly (s (s (s m))) (s (s (s (s m)))) o 3 (omega arith) refl
    ∙ mixed_more poly (s (s m)) (s (s (s m))) o 2 (omega arith) refl
    ∙ mixed_more poly (s m) (s (s m)) o 1 (omega arith) refl
    ∙ mixed_more poly m (s m) o 0 (omega arith) refl
    ∙ mixed_first poly before o wide is

-- ---- four bits at a time

-- a step of two numbers, one put over the other
step_over : (poly a b : ℕ) → crc_step poly (bit_xor a b) false ≡ bit_xor (crc_step poly a false) (crc_step poly b false)
step_over poly a b = go (a % 2) (b % 2) refl refl (omega arith) (omega arith)
  where
    part : ℕ → ℕ → ℕ
    part d r = cond (d == 0) r (bit_xor r poly)

    turned : bit_xor (bit_xor (a / 2) poly) (b / 2) ≡ bit_xor (bit_xor (a / 2) (b / 2)) poly
    turned = xor_assoc (a / 2) poly (b / 2) ∙ ap (bit_xor (a / 2)) (xor_comm poly (b / 2)) ∙ sym (xor_assoc (a / 2) (b / 2) poly)

    twice : bit_xor (bit_xor (a / 2) poly) (bit_xor (b / 2) poly) ≡ bit_xor (a / 2) (b / 2)
    twice = sym (xor_assoc (bit_xor (a / 2) poly) (b / 2) poly) ∙ ap (λ r. bit_xor r poly) turned ∙ xor_assoc (bit_xor (a / 2) (b / 2)) poly poly ∙ ap (bit_xor (bit_xor (a / 2) (b / 2))) (xor_self poly) ∙ xor_zero_r (bit_xor (a / 2) (b / 2))

    cases : (d e : ℕ) → d < 2 → e < 2 → part (bit_xor d e) (bit_xor (a / 2) (b / 2)) ≡ bit_xor (part d (a / 2)) (part e (b / 2))
    cases zero zero p q = refl
    cases zero (suc zero) p q = xor_assoc (a / 2) (b / 2) poly
    cases zero (suc (suc e)) p q = absurd (omega arith)
    cases (suc zero) zero p q = sym turned
    cases (suc zero) (suc zero) p q = sym twice
    cases (suc zero) (suc (suc e)) p q = absurd (omega arith)
    cases (suc (suc d)) e p q = absurd (omega arith)

    go : (d e : ℕ) → a % 2 ≡ d → b % 2 ≡ e → d < 2 → e < 2 → part (bit_xor a b % 2) (bit_xor a b / 2) ≡ bit_xor (part (a % 2) (a / 2)) (part (b % 2) (b / 2))
    go d e is and p q =
        (λ i. part ((xor_mod a b 1 ∙ (λ j. bit_xor (is j) (and j))) i) (xor_shr a b 1 i)) ∙ cases d e p q ∙ (λ i. bit_xor (part (sym is i) (a / 2)) (part (sym and i) (b / 2)))

fours_over : (poly a b : ℕ) → four_steps poly (bit_xor a b) ≡ bit_xor (four_steps poly a) (four_steps poly b)
fours_over poly a b =
    let s : ℕ → ℕ = λ r. crc_step poly r false in
    ap (λ r. s (s (s r))) (step_over poly a b) ∙ ap (λ r. s (s r)) (step_over poly (s a) (s b)) ∙ ap s (step_over poly (s (s a)) (s (s b))) ∙ step_over poly (s (s (s a))) (s (s (s b)))

-- a bit that is zero
step_even : (poly h : ℕ) → crc_step poly (h * 2) false ≡ h
step_even poly h =
    let rest : h * 2 % 2 ≡ 0 = omega arith in
    let half : h * 2 / 2 ≡ h = omega arith in
    λ i. cond (rest i == 0) (half i) (bit_xor (half i) poly)

fours_high : (poly h : ℕ) → four_steps poly (h * 16) ≡ h
fours_high poly h =
    let s : ℕ → ℕ = λ r. crc_step poly r false in
    let same : h * 16 ≡ h * 2 * 2 * 2 * 2 = omega arith in
    ap (four_steps poly) same ∙ ap (λ r. s (s (s r))) (step_even poly (h * 2 * 2 * 2)) ∙ ap (λ r. s (s r)) (step_even poly (h * 2 * 2)) ∙ ap s (step_even poly (h * 2)) ∙ step_even poly h

-- a number is its lowest four bits, put over the others
parts_over : (mixed : ℕ) → bit_xor (mixed % 16) (mixed / 16 * 16) ≡ mixed
parts_over mixed =
    let low : mixed % 16 ≡ 0 * 2 ^ 4 + mixed % 16 = omega arith in
    let high : mixed / 16 * 16 ≡ mixed / 16 * 2 ^ 4 + 0 = omega arith in
    let whole : mixed / 16 * 2 ^ 4 + mixed % 16 ≡ mixed = omega arith in
    (λ i. bit_xor (low i) (high i)) ∙ xor_block 4 0 (mixed / 16) (mixed % 16) 0 (omega arith) (omega arith) ∙ ap (λ r. mixed / 16 * 2 ^ 4 + r) (xor_zero_r (mixed % 16)) ∙ whole

-- four bits by the table
pub looked_up : (poly : ℕ) (table : List ℕ) (mixed : ℕ) → IsTable poly table → bit_xor (slice_index table (mixed % 16)) (mixed / 16) ≡ four_steps poly mixed
looked_up poly table mixed is =
    let low : slice_index table (mixed % 16) ≡ four_steps poly (mixed % 16) = is (mixed % 16) (omega arith) in
    (λ i. bit_xor (low i) (sym (fours_high poly (mixed / 16)) i)) ∙ sym (fours_over poly (mixed % 16) (mixed / 16 * 16)) ∙ ap (four_steps poly) (parts_over mixed)

-- the table by three steps of the polynomial
pub table_is : (poly four two one : ℕ) → four ≡ crc_step poly poly false → two ≡ crc_step poly four false → one ≡ crc_step poly two false
    → IsTable poly (0 ∷ one ∷ two ∷ bit_xor two one ∷ four ∷ bit_xor four one ∷ bit_xor four two ∷ bit_xor four (bit_xor two one) ∷ poly ∷ bit_xor poly one ∷ bit_xor poly two ∷ bit_xor poly (bit_xor two one) ∷ bit_xor poly four ∷ bit_xor (bit_xor poly four) one ∷ bit_xor (bit_xor poly four) two ∷ bit_xor (bit_xor poly four) (bit_xor two one) ∷ [])
table_is poly four two one f t o = each
  where
    over : (a b x y : ℕ) → x ≡ four_steps poly a → y ≡ four_steps poly b → bit_xor x y ≡ four_steps poly (bit_xor a b)
    over a b x y p q = (λ i. bit_xor (p i) (q i)) ∙ sym (fours_over poly a b)

    four_is : four ≡ four_steps poly 4
    four_is = f

    two_is : two ≡ four_steps poly 2
    two_is = t ∙ ap (λ r. crc_step poly r false) f

    one_is : one ≡ four_steps poly 1
    one_is = o ∙ ap (λ r. crc_step poly r false) two_is

    three_is : bit_xor two one ≡ four_steps poly 3
    three_is = over 2 1 two one two_is one_is

    twelve_is : bit_xor poly four ≡ four_steps poly 12
    twelve_is = over 8 4 poly four refl four_is

    each : IsTable poly (0 ∷ one ∷ two ∷ bit_xor two one ∷ four ∷ bit_xor four one ∷ bit_xor four two ∷ bit_xor four (bit_xor two one) ∷ poly ∷ bit_xor poly one ∷ bit_xor poly two ∷ bit_xor poly (bit_xor two one) ∷ bit_xor poly four ∷ bit_xor (bit_xor poly four) one ∷ bit_xor (bit_xor poly four) two ∷ bit_xor (bit_xor poly four) (bit_xor two one) ∷ [])
    each zero h = refl
    each (suc zero) h = one_is
    each (suc (suc zero)) h = two_is
    each (suc (suc (suc zero))) h = over 2 1 two one two_is one_is
    each (suc (suc (suc (suc zero)))) h = four_is
    each (suc (suc (suc (suc (suc zero))))) h = over 4 1 four one four_is one_is
    each (suc (suc (suc (suc (suc (suc zero)))))) h = over 4 2 four two four_is two_is
    each (suc (suc (suc (suc (suc (suc (suc zero))))))) h = over 4 3 four (bit_xor two one) four_is three_is
    each (suc (suc (suc (suc (suc (suc (suc (suc zero)))))))) h = refl
    each (suc (suc (suc (suc (suc (suc (suc (suc (suc zero))))))))) h = over 8 1 poly one refl one_is
    each (suc (suc (suc (suc (suc (suc (suc (suc (suc (suc zero)))))))))) h = over 8 2 poly two refl two_is
    each (suc (suc (suc (suc (suc (suc (suc (suc (suc (suc (suc zero))))))))))) h = over 8 3 poly (bit_xor two one) refl three_is
    each (suc (suc (suc (suc (suc (suc (suc (suc (suc (suc (suc (suc zero)))))))))))) h = over 8 4 poly four refl four_is
    each (suc (suc (suc (suc (suc (suc (suc (suc (suc (suc (suc (suc (suc zero))))))))))))) h = over 12 1 (bit_xor poly four) one twelve_is one_is
    each (suc (suc (suc (suc (suc (suc (suc (suc (suc (suc (suc (suc (suc (suc zero)))))))))))))) h = over 12 2 (bit_xor poly four) two twelve_is two_is
    each (suc (suc (suc (suc (suc (suc (suc (suc (suc (suc (suc (suc (suc (suc (suc zero))))))))))))))) h = over 12 3 (bit_xor poly four) (bit_xor two one) twelve_is three_is
    each (suc (suc (suc (suc (suc (suc (suc (suc (suc (suc (suc (suc (suc (suc (suc (suc r)))))))))))))))) h = absurd (omega arith)

-- ---- octets

-- what `octet` answers, where there is an octet
pub octet_there : (r : Option ℕ) (xs : List Bool) (place o : ℕ) → 8 * place < length xs → SomeIff r (8 * place < length xs) (num (take 8 (drop (8 * place) (xs ++ replicate 8 false)))) → o ≡ unwrap_or r 0 → o ≡ num (take 8 (drop (8 * place) (xs ++ replicate 8 false)))
octet_there (Some x) xs place o h s e = e ∙ s.1
octet_there None xs place o h s e = absurd (s h)

-- the octet that bits spell
pub octet_bits : (xs : List Bool) (start o : ℕ) → start + 8 ≤ length xs → o ≡ num (take 8 (drop start (xs ++ replicate 8 false))) → enc 8 o ≡ take 8 (drop start xs)
octet_bits xs start o l is =
    let part : List Bool = take 8 (drop start xs) in
    let n : length part ≡ 8 = length-take-le 8 (drop start xs) (omega (arith, length-drop start xs)) in
    let e : take 8 (drop start (xs ++ replicate 8 false)) ≡ part = part_padded xs (replicate 8 false) start 8 l in
    ap (enc 8) (is ∙ ap num e) ∙ ap (λ m. enc m (num part)) (sym n) ∙ enc-num part

-- one more octet
pub octets_more : (poly register new : ℕ) (xs : List Bool) (n o : ℕ) → o < n → new ≡ fold (crc_step poly) register (reverse (take 8 (drop (8 * o) xs)))
    → fold (crc_step poly) new (low_bits_first (n - (o + 1)) (drop (8 * (o + 1)) xs)) ≡ fold (crc_step poly) register (low_bits_first (n - o) (drop (8 * o) xs))
octets_more poly register new xs n o h is =
    let s : suc (n - (o + 1)) ≡ n - o = omega arith in
    let d : drop 8 (drop (8 * o) xs) ≡ drop (8 * (o + 1)) xs = drop-drop 8 (8 * o) xs ∙ (let e : 8 * o + 8 ≡ 8 * (o + 1) = omega arith in ap (λ x. drop x xs) e) in
    (λ i. fold (crc_step poly) (is i) (low_bits_first (n - (o + 1)) (sym d i)))
    ∙ sym (fold-append (crc_step poly) register (reverse (take 8 (drop (8 * o) xs))) (low_bits_first (n - (o + 1)) (drop 8 (drop (8 * o) xs))))
    ∙ ap (λ m. fold (crc_step poly) register (low_bits_first m (drop (8 * o) xs))) s

-- the register never has more bits
step_fits : (poly register w : ℕ) (x : Bool) → poly < 2 ^ w → register < 2 ^ w → crc_step poly register x < 2 ^ w
step_fits poly register w x h l = by (register % 2 == bit x)
  where
    by : (b : Bool) → cond b (register / 2) (bit_xor (register / 2) poly) < 2 ^ w
    by true = omega arith
    by false = xor_lt w (register / 2) poly (omega arith) h

steps_fit : (poly register w : ℕ) (xs : List Bool) → poly < 2 ^ w → register < 2 ^ w → fold (crc_step poly) register xs < 2 ^ w
steps_fit poly register w [] h l = l
steps_fit poly register w (x ∷ xs) h l = steps_fit poly (crc_step poly register x) w xs h (step_fits poly register w x h l)

pub register_fits : (poly initial w : ℕ) (xs : List Bool) (register : ℕ) → poly < 2 ^ w → initial < 2 ^ w → register ≡ crc_register poly initial xs → register < 2 ^ w
register_fits poly initial w xs register h l is = omega (arith, is, steps_fit poly initial w (low_bits_first (length xs / 8) xs) h l)
