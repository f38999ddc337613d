-- Bits as a count and a number.
use Rattle.std.proofs.Common.{◌≡◌, ◌∙◌, sym, subst, ap, ℕ, ◌+◌, ◌-◌, ◌*◌, ◌/◌, ◌%◌, ◌<◌, ◌≤◌, ◌^◌, List, Bool, false, ◌++◌, ◌∷◌, [], zero, suc, refl, take, length, replicate, append_assoc, append-nil, length-append, arith}
use Rattle.std.proofs.lemmas.Nat.{shr_below}
use Rattle.hex.specs.Hex.{IsBytes}
use Rattle.sem_bits.specs.Number.{num, enc}
use Rattle.sem_bits.specs.Octets.{bits_of, Holds}
use Rattle.sem_bits.proofs.NumberWindows.{count_held, enc_join, enc_split, join_even, num_low}
use Rattle.sem_bits.proofs.Octets.{bits_of-append, length-bits_of}
use Rattle.sem_bits.proofs.OctetsHeld.{bits_same}
use Rattle.sem_bits.proofs.Numbers.{length-enc, num-enc, num-below, enc_nil, enc-num}
use Rattle.sem_bits.proofs.Words.{beside_room, beside_word}

pub no_bits : enc 0 0 ≡ []
no_bits = enc_nil 0

-- others beside bits
pub room : (n x m y k : ℕ) → x < 2 ^ n → y < 2 ^ m → k ≡ n + m → k ≤ 64 → x * 2 ^ m + y < 2 ^ 64
room n x m y k below other sum le = beside_room (enc n x) (enc m y) x y n m (length-enc n x) (length-enc m y) (subst (λ z. z ≤ 64) sum le) (sym (num-enc n x below)) (sym (num-enc m y other))

pub both : (n x m y k r : ℕ) → x < 2 ^ n → y < 2 ^ m → k ≡ n + m → r ≡ x * 2 ^ m + y → (r < 2 ^ k) × (enc k r ≡ enc n x ++ enc m y)
both n x m y k r below other sum made = rw sum (beside_word (enc n x) (enc m y) x y n m r (length-enc n x) (length-enc m y) (sym (num-enc n x below)) (sym (num-enc m y other)) made)

-- a word of bits
pub word_within : (b : List Bool) (n x : ℕ) → n ≡ length b → length b ≤ 64 → x ≡ num b → (n ≤ 64) × (x < 2 ^ n)
word_within b n x count short is = rw (count, is) (short, num-below b)

pub word_is : (b : List Bool) (n x : ℕ) → n ≡ length b → x ≡ num b → enc n x ≡ b
word_is b n x count is = rw (count, is) (enc-num b)

pub word_says : (n x : ℕ) → x < 2 ^ n → n ≤ 64 → (length (enc n x) ≡ n) × (num (enc n x) ≡ x) × (n ≤ 64)
word_says n x below short = (length-enc n x, num-enc n x below, short)

pub word_length : (n x : ℕ) (b : List Bool) → enc n x ≡ b → n ≡ length b
word_length n x b is = sym (length-enc n x) ∙ ap length is

pub word_short : (n x : ℕ) (b : List Bool) → enc n x ≡ b → n ≤ 64 → length b ≤ 64
word_short n x b is short = subst (λ k. k ≤ 64) (word_length n x b is) short

pub word_number : (n x : ℕ) (b : List Bool) → enc n x ≡ b → x < 2 ^ n → x ≡ num b
word_number n x b is below = sym (num-enc n x below) ∙ ap num is

-- the first 64 bits of two words, and the rest
pub filled : (a b : List Bool) (x y n m room left first rest : ℕ) → enc n x ≡ a → enc m y ≡ b → n + room ≡ 64 → m ≡ room + left → y < 2 ^ m → first ≡ x * 2 ^ room + y / 2 ^ left → rest ≡ y % 2 ^ left → a ++ b ≡ enc 64 first ++ enc left rest
filled a b x y n m room left first rest one other whole sum below first_is rest_is =
    let low : enc left rest ≡ enc left y =
    ap (enc left) (rest_is ∙ sym (num_low left y)) ∙ ap (λ k. enc k (num (enc left y))) (sym (length-enc left y)) ∙ enc-num (enc left y) in
    let within : y / 2 ^ left < 2 ^ room = shr_below y room left (subst (λ k. y < 2 ^ k) sum below) in
    (λ i. sym one i ++ sym other i)
    ∙ ap (λ k. enc n x ++ enc k y) sum
    ∙ ap (λ z. enc n x ++ z) (enc_split room left y)
    ∙ sym (append_assoc (enc n x) (enc room (y / 2 ^ left)) (enc left y))
    ∙ ap (λ z. z ++ enc left y) (sym (enc_join n room x (y / 2 ^ left) within))
    ∙ (λ i. enc (whole i) (sym first_is i) ++ sym low i)

-- one with all its 64 bits
pub filled_whole : (a : List Bool) (n x : ℕ) → enc n x ≡ a → n ≡ 64 → enc 64 x ≡ a
filled_whole a n x is whole = ap (λ k. enc k x) (sym whole) ∙ is

-- ---- octets

-- eight octets that hold 64 bits are these
pub held_whole : (os : List ℕ) (w : ℕ) → Holds os (enc 64 w) → length os ≡ 8 → bits_of os ≡ enc 64 w
held_whole os w held count =
    let many = count_held os (enc 64 w) held in
    let long = length-enc 64 w in
    let none : held.padding ≡ 0 = omega (arith, many, long, count) in
    held.filled ∙ ap (λ p. enc 64 w ++ replicate p false) none ∙ append-nil (enc 64 w)

-- octets hold their bits
pub own_held : (os : List ℕ) → IsBytes os → Holds os (bits_of os)
own_held os bytes = record { octets_fit = bytes; padding = 0; few = omega arith; filled = sym (append-nil (bits_of os)) }

pub even_bits : (os : List ℕ) → length (bits_of os) % 8 ≡ 0
even_bits os = let long = length-bits_of os in omega (arith, long)

-- bits that are held by octets with a word behind them
pub held_joined : (old new last : List ℕ) (tail b : List Bool) → IsBytes old → Holds last tail → new ≡ old ++ last → Holds new b → length b ≡ 8 * length old + length tail → b ≡ bits_of old ++ tail
held_joined old new last tail b bytes held is own count =
    let long = length-bits_of old in
    let sum = length-append (bits_of old) tail in
    bits_same new b (bits_of old ++ tail) own (join_even old new last (bits_of old) tail (own_held old bytes) held (even_bits old) is) (omega (arith, count, long, sum))

-- what is left of a word, and room for the first 64 bits
pub left_over : (n m : ℕ) (a b : List Bool) → n ≡ length a → m ≡ length b → 64 < length a + length b → 64 - n ≤ m
left_over n m a b one other over = omega (arith, one, other, over)

pub over_both : (n m : ℕ) (a b : List Bool) → n ≡ length a → m ≡ length b → 64 < n + m → 64 < length a + length b
over_both n m a b one other over = omega (arith, one, other, over)

pub fill_room : (n x m y : ℕ) → x < 2 ^ n → n ≤ 64 → y < 2 ^ m → 64 - n ≤ m → x * 2 ^ (64 - n) + y / 2 ^ (m - (64 - n)) < 2 ^ 64
fill_room n x m y below short other le =
    let sum : m ≡ (64 - n) + (m - (64 - n)) = omega (arith, le) in
    let whole : 64 ≡ n + (64 - n) = omega (arith, short) in
    let least : 64 ≤ 64 = omega arith in
    room n x (64 - n) (y / 2 ^ (m - (64 - n))) 64 below (shr_below y (64 - n) (m - (64 - n)) (subst (λ k. y < 2 ^ k) sum other)) whole least

take_whole : (xs : List ℕ) (n : ℕ) → length xs ≡ n → take n xs ≡ xs
take_whole [] zero e = refl
take_whole [] (suc n) e = refl
take_whole (x ∷ xs) zero e = absurd (omega (arith, e))
take_whole (x ∷ xs) (suc n) e = ap (λ z. x ∷ z) (take_whole xs n (omega (arith, e)))

-- 64 bits more in octets
pub spilled : (old now new os : List ℕ) (w : ℕ) (tail bits rest : List Bool) → now ≡ old → new ≡ now ++ os → length os ≡ 8 → Holds (take 8 os) (enc 64 w) → tail ++ bits ≡ enc 64 w ++ rest → bits_of new ++ rest ≡ (bits_of old ++ tail) ++ bits
spilled old now new os w tail bits rest same grown count held is =
    let whole = take_whole os 8 count in
    let os_are : bits_of os ≡ enc 64 w = held_whole os w (subst (λ x. Holds x (enc 64 w)) whole held) count in
    ap (λ x. bits_of x ++ rest) (grown ∙ ap (λ x. x ++ os) same)
    ∙ ap (λ z. z ++ rest) (bits_of-append old os ∙ ap (λ z. bits_of old ++ z) os_are)
    ∙ append_assoc (bits_of old) (enc 64 w) rest
    ∙ ap (λ z. bits_of old ++ z) (sym is)
    ∙ sym (append_assoc (bits_of old) tail bits)
