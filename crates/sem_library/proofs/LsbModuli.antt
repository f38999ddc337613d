use Rattle.std.proofs.Common.{◌≡◌, ℕ, ◌+◌, ◌-◌, ◌*◌, ◌/◌, ◌%◌, ◌^◌, ◌<◌, ◌≤◌, refl, sym, ap, ◌∙◌, arith, ⊎_elim, ◌⊎◌}
use Rattle.std.specs.Prelude.{ℤ, pos, ◌+ℤ◌, ◌-ℤ◌}
use lib.IntN.{negsuc}
use Rattle.std.specs.Int.{int_rem_euclid}
use Rattle.std.specs.Int.RustNames.{unsigned_abs}
use Rattle.std.proofs.lemmas.Int.{ints, int_rem_euclid_is}
use Rattle.std.proofs.lemmas.Bool.{cases_lt}
use Rattle.std.proofs.lemmas.Nat.{mod_below, pow-add}
use Rattle.std.proofs.Math.Nat.{div-add-mod', mod-eq_of_lt, mod-eq-sub-mod, mod-add-mod, mod-mod_of_dvd, dvd-mul_right}

by_order : {A B P : Type 0} → A ⊎ B → (A → P) → (B → P) → P
by_order s f g = ⊎_elim f g s

-- a remainder goes on with what is added
pub rem_more : (z : ℤ) (j m : ℕ) → 0 < m → int_rem_euclid (z +ℤ pos j) (pos m) ≡ pos ((unsigned_abs (int_rem_euclid z (pos m)) + j) % m)
rem_more (pos a) j m h = ap pos (sym (mod-add-mod a m j))
rem_more (negsuc a) j m h =
    let d = div-add-mod' a m in
    let b = mod_below a m h in
    int_rem_euclid_is (negsuc a +ℤ pos j) (pos m) m (a / m + 1) (m - 1 - a % m + j) h refl (omega (arith, ints))

-- a remainder may be taken of a part first
pub rem_first : (r : ℕ) (z : ℤ) (m : ℕ) → 0 < m → int_rem_euclid (pos r -ℤ int_rem_euclid z (pos m)) (pos m) ≡ int_rem_euclid (pos r -ℤ z) (pos m)
rem_first r (pos a) m h =
    let d = div-add-mod' a m in
    let b = mod_below a m h in
    int_rem_euclid_is (pos r -ℤ pos (a % m)) (pos m) m 1 (r + m - a % m) h refl (omega (arith, ints))
    ∙ sym (int_rem_euclid_is (pos r -ℤ pos a) (pos m) m (a / m + 1) (r + m - a % m) h refl (omega (arith, ints)))
rem_first r (negsuc a) m h =
    let d = div-add-mod' a m in
    let b = mod_below a m h in
    int_rem_euclid_is (pos r -ℤ pos (m - 1 - a % m)) (pos m) m (a / m + 1) (r + a + 1) h refl (omega (arith, ints))
    ∙ sym (int_rem_euclid_is (pos r -ℤ negsuc a) (pos m) m 0 (r + a + 1) h refl (omega (arith, ints)))

-- the remainder of what is below twice the modulus
low_mod : (x m : ℕ) → x < m → x % m ≡ x
low_mod x m h = mod-eq_of_lt h

high_mod : (x m : ℕ) → m ≤ x → x < m + m → x % m ≡ x - m
high_mod x m h l = mod-eq-sub-mod h ∙ low_mod (x - m) m (omega arith)

-- The place in an interval of k numbers of the one that ends as said.
abbrev pub ahead : ℕ → ℕ → ℕ → ℕ
ahead k start low = (low + k - start % k) % k

pub ahead-below : (k start low : ℕ) → 0 < k → ahead k start low < k
ahead-below k start low h = mod_below (low + k - start % k) k h

sum_of_parts : (start k x : ℕ) → 0 < k → (start + x) % k ≡ (start % k + x) % k
sum_of_parts start k x h = sym (mod-add-mod start k x)

pub ahead-ends : (k start low : ℕ) → low < k → (start + ahead k start low) % k ≡ low
ahead-ends k start low h =
    let t = start % k in
    let b : start % k < k = mod_below start k (omega arith) in
    sum_of_parts start k (ahead k start low) (omega arith)
    ∙ by_order (cases_lt low (start % k))
    (λ lt.
    let e : (low + k - start % k) % k ≡ low + k - start % k = low_mod (low + k - start % k) k (omega arith) in
    ap (λ x. (start % k + x) % k) e ∙ (high_mod (start % k + (low + k - start % k)) k (omega arith) (omega arith) ∙ omega arith))
    (λ ge.
    let e : (low + k - start % k) % k ≡ low + k - start % k - k = high_mod (low + k - start % k) k (omega arith) (omega arith) in
    ap (λ x. (start % k + x) % k) e ∙ (let s : start % k + (low + k - start % k - k) ≡ low = omega arith in ap (λ x. x % k) s ∙ low_mod low k h))

-- and no other place has it
pub ahead-only : (k start low x : ℕ) → low < k → x < k → (start + x) % k ≡ low → x ≡ ahead k start low
ahead-only k start low x h l e =
    let b : start % k < k = mod_below start k (omega arith) in
    let s : (start % k + x) % k ≡ low = sym (sum_of_parts start k x (omega arith)) ∙ e in
    by_order (cases_lt (start % k + x) k)
    (λ lt.
    let f : start % k + x ≡ low = sym (low_mod (start % k + x) k lt) ∙ s in
    sym (high_mod (low + k - start % k) k (omega arith) (omega arith) ∙ omega arith))
    (λ ge.
    let f : start % k + x - k ≡ low = sym (high_mod (start % k + x) k ge (omega arith)) ∙ s in
    sym (low_mod (low + k - start % k) k (omega arith) ∙ omega arith))

-- how far a number is ahead of a start
abbrev pub distance_of : ℕ → ℕ → ℕ → ℕ
distance_of m start value = (value + m - start) % m

pub distance-reaches : (m start value : ℕ) → start < m → value < m → (start + distance_of m start value) % m ≡ value
distance-reaches m start value h l =
    by_order (cases_lt value start)
    (λ lt.
    let e : (value + m - start) % m ≡ value + m - start = low_mod (value + m - start) m (omega arith) in
    ap (λ x. (start + x) % m) e ∙ (high_mod (start + (value + m - start)) m (omega arith) (omega arith) ∙ omega arith))
    (λ ge.
    let e : (value + m - start) % m ≡ value + m - start - m = high_mod (value + m - start) m (omega arith) (omega arith) in
    ap (λ x. (start + x) % m) e ∙ (let s : start + (value + m - start - m) ≡ value = omega arith in ap (λ x. x % m) s ∙ low_mod value m l))

pub distance-only : (m start value x : ℕ) → start < m → x < m → value ≡ (start + x) % m → x ≡ distance_of m start value
distance-only m start value x h l e =
    let b : value < m = omega (arith, mod_below (start + x) m (omega arith)) in
    by_order (cases_lt (start + x) m)
    (λ lt.
    let f : value ≡ start + x = e ∙ low_mod (start + x) m lt in
    sym (high_mod (value + m - start) m (omega arith) (omega arith) ∙ omega arith))
    (λ ge.
    let f : value ≡ start + x - m = e ∙ high_mod (start + x) m ge (omega arith) in
    sym (low_mod (value + m - start) m (omega arith) ∙ omega arith))

-- a remainder of a remainder at a greater power of two
pub mod_again : (x k n : ℕ) → k ≤ n → x % 2 ^ n % 2 ^ k ≡ x % 2 ^ k
mod_again x k n h =
    let e : 2 ^ k * 2 ^ (n - k) ≡ 2 ^ n = sym (pow-add 2 k (n - k)) ∙ (let s : k + (n - k) ≡ n = omega arith in ap (λ i. 2 ^ i) s) in
    ap (λ m. x % m % 2 ^ k) (sym e) ∙ mod-mod_of_dvd (2 ^ k) x (dvd-mul_right (2 ^ k) (2 ^ (n - k)))

-- a remainder is a number below the modulus
pub rem_is : (z : ℤ) (m : ℕ) → int_rem_euclid z (pos m) ≡ pos (unsigned_abs (int_rem_euclid z (pos m)))
rem_is (pos a) m = refl
rem_is (negsuc a) m = refl

pub rem_fits : (z : ℤ) (m : ℕ) → 0 < m → unsigned_abs (int_rem_euclid z (pos m)) < m
rem_fits (pos a) m h = mod_below a m h
rem_fits (negsuc a) m h = omega (arith, mod_below a m h)
