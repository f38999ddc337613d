use Rattle.std.proofs.Common.{◌≡◌, ℕ, zero, suc, ◌+◌, ◌*◌, ◌/◌, ◌%◌, ◌^◌, ◌<◌, ◌==◌, Bool, true, false, List, [], ◌∷◌, ◌++◌, length, refl, ◌∙◌, arith, length-append}
use Rattle.std.proofs.lemmas.Nat.{shr-shr, shr_split, pow_pos, shr_high, div_below, mod_below}
use Rattle.std.proofs.Math.Nat.{pow-succ'}
use Rattle.std.specs.Prelude.{fold}
use Rattle.sem_bits.specs.Number.{bit, num, enc}

-- the number that the bits spell after a number is read
abbrev pub num_after : ℕ → List Bool → ℕ
num_after n bs = fold (λ m b. 2 * m + bit b) n bs

-- one more bit doubles the number and adds the bit
pub num_after-push : (n : ℕ) (bs : List Bool) (x : Bool) → num_after n (bs ++ x ∷ []) ≡ 2 * num_after n bs + bit x
num_after-push n [] x = refl
num_after-push n (b ∷ bs) x = num_after-push (2 * n + bit b) bs x

pub num-push : (bs : List Bool) (x : Bool) → num (bs ++ x ∷ []) ≡ 2 * num bs + bit x
unfolding num
num-push bs x = num_after-push 0 bs x

pub length-enc : (n v : ℕ) → length (enc n v) ≡ n
unfolding enc
length-enc zero v = refl
length-enc (suc n) v = simp length-append (omega (arith, length-enc n (v / 2)))

-- what is left of a number halved
odd_value : (v : ℕ) → bit (v % 2 == 1) ≡ v % 2
odd_value v = by (v % 2) (omega arith)
  where
    by : (r : ℕ) → r < 2 → bit (r == 1) ≡ r
    by zero h = refl
    by (suc zero) h = refl
    by (suc (suc r)) h = absurd (omega arith)

pub num-nil : num [] ≡ 0
unfolding num
num-nil = refl

pub num-enc : (n v : ℕ) → v < 2 ^ n → num (enc n v) ≡ v
unfolding enc
num-enc zero v h = omega (arith, num-nil)
num-enc (suc n) v h =
    let p : 2 ^ suc n ≡ 2 * 2 ^ n = pow-succ' 2 n in
    let e : num (enc n (v / 2)) ≡ v / 2 = num-enc n (v / 2) (omega arith) in
    rw num-push (omega (arith, odd_value v, e))

pub shr_first : (v k : ℕ) → v / 2 / 2 ^ k ≡ v / 2 ^ suc k
shr_first v k = shr-shr v 1 k ∙ (let e : 1 + k ≡ suc k = omega arith in rw e refl)

pub enc-cons : (n v : ℕ) → enc (suc n) v ≡ ((v / 2 ^ n) % 2 == 1) ∷ enc n v
unfolding enc
enc-cons zero v = let w : v / 1 ≡ v = omega arith in rw w refl
enc-cons (suc n) v = rw (enc-cons n (v / 2), shr_first v n) refl

num_after-split : (n : ℕ) (bs : List Bool) → num_after n bs ≡ n * 2 ^ length bs + num_after 0 bs
num_after-split n [] = omega arith
num_after-split n (b ∷ bs) =
    let p : 2 ^ suc (length bs) ≡ 2 * 2 ^ length bs = pow-succ' 2 (length bs) in
    rw p (omega (arith, num_after-split (2 * n + bit b) bs, num_after-split (0 + bit b) bs))

num_after-below : (bs : List Bool) → num_after 0 bs < 2 ^ length bs
num_after-below [] = omega arith
num_after-below (false ∷ bs) =
    let p : 2 ^ suc (length bs) ≡ 2 * 2 ^ length bs = pow-succ' 2 (length bs) in
    rw p (omega (arith, num_after-below bs))
num_after-below (true ∷ bs) =
    let p : 2 ^ suc (length bs) ≡ 2 * 2 ^ length bs = pow-succ' 2 (length bs) in
    rw p (omega (arith, num_after-below bs, num_after-split 1 bs))

pub num-below : (bs : List Bool) → num bs < 2 ^ length bs
unfolding num
num-below bs = num_after-below bs

low_bit : (n : ℕ) (b : Bool) → ((2 * n + bit b) % 2 == 1) ≡ b
low_bit n false = let e : (2 * n + 0) % 2 ≡ 0 = omega arith in rw e refl
low_bit n true = let e : (2 * n + 1) % 2 ≡ 1 = omega arith in rw e refl

enc-num_after : (n : ℕ) (bs : List Bool) → enc (length bs) (num_after n bs) ≡ bs
unfolding enc
enc-num_after n [] = refl
enc-num_after n (b ∷ bs) =
    let m : ℕ = 2 * n + bit b in
    let e : num_after m bs / 2 ^ length bs ≡ m = rw (num_after-split m bs) (shr_high m (length bs) (num_after 0 bs) (num_after-below bs)) in
    rw (enc-cons (length bs) (num_after m bs), e, low_bit n b, enc-num_after m bs) refl

pub enc-num : (bs : List Bool) → enc (length bs) (num bs) ≡ bs
unfolding num
enc-num bs = enc-num_after 0 bs

-- a number that a shift empties, and back
pub shr_zero : (v k : ℕ) → v < 2 ^ k → v / 2 ^ k ≡ 0
shr_zero v k h = omega (arith, div_below v (2 ^ k) 1 (pow_pos k) (omega arith))

pub below_shr : (v k : ℕ) → v / 2 ^ k ≡ 0 → v < 2 ^ k
below_shr v k h = omega (arith, mod_below v (2 ^ k) (pow_pos k), rw h at (shr_split v k))

pub enc_nil : (v : ℕ) → enc 0 v ≡ []
unfolding enc
enc_nil v = refl

num_after_append : (n : ℕ) (a b : List Bool) → num_after n (a ++ b) ≡ num_after (num_after n a) b
num_after_append n [] b = refl
num_after_append n (x ∷ a) b = num_after_append (2 * n + bit x) a b

-- the number of bits side by side
pub num_join : (a b : List Bool) → num (a ++ b) ≡ num a * 2 ^ length b + num b
unfolding num
num_join a b = num_after_append 0 a b ∙ num_after-split (num_after 0 a) b
