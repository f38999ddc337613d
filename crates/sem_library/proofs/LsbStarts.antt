use Rattle.std.proofs.Common.{◌≡◌, ℕ, ◌*◌, ◌%◌, ◌^◌, ◌<◌, ◌≤◌, ap, ◌∙◌, arith}
use Rattle.std.specs.Prelude.{ℤ, pos, ◌-ℤ◌}
use Rattle.std.specs.Int.{int_rem_euclid}
use Rattle.std.specs.Int.RustNames.{unsigned_abs, FitsSigned}
use mir.Syntax.{w128}
use mir.Val.{to_z, of_z}
use Rattle.std.proofs.lemmas.Int.{ints, to_z-of_z, to_z_pos, fits_signed_from_abs}
use Rattle.std.proofs.lemmas.Nat.{pow_pos, one_shl}
use Rattle.std.proofs.Math.Pow.{pow_mono}
use Rattle.sem_library.proofs.LsbModuli.{rem_first, rem_is, rem_fits}

-- a difference of two numbers below 2 ^ 65 fits in 128 bits
difference_fits : (a b : ℕ) → a < 2 ^ 65 → b < 2 ^ 65 → FitsSigned w128 (pos a -ℤ pos b)
difference_fits a b h l = fits_signed_from_abs w128 (pos a -ℤ pos b) (omega (arith, ints))

number_fits : (a : ℕ) → a < 2 ^ 65 → FitsSigned w128 (pos a)
number_fits a h = fits_signed_from_abs w128 (pos a) (omega arith)

-- what the code computes in 128 bits is the start of the interval
pub start_is : (first second offset from : ℤ) (last len : ℕ) → FitsSigned w128 offset → FitsSigned w128 second → from ≡ pos last → last < 2 ^ 64 → len ≤ 64
    → first ≡ int_rem_euclid (to_z w128 (of_z w128 offset)) (to_z w128 ((1 * 2 ^ len) % 2 ^ 128))
    → second ≡ int_rem_euclid (to_z w128 (of_z w128 (to_z w128 (of_z w128 from) -ℤ to_z w128 (of_z w128 first)))) (to_z w128 ((1 * 2 ^ len) % 2 ^ 128))
    → unsigned_abs (to_z w128 (of_z w128 second)) ≡ unsigned_abs (int_rem_euclid (pos last -ℤ offset) (pos (2 ^ len)))
start_is first second offset from last len fits fits_second is_last below short e f =
    let most : 2 ^ len ≤ 2 ^ 64 = pow_mono short in
    let modulus : to_z w128 ((1 * 2 ^ len) % 2 ^ 128) ≡ pos (2 ^ len) = ap (to_z w128) (one_shl len 128 (omega arith)) ∙ to_z_pos w128 (2 ^ len) (omega arith) in
    let a : first ≡ int_rem_euclid offset (pos (2 ^ len)) = e ∙ (λ i. int_rem_euclid (to_z-of_z w128 offset fits i) (modulus i)) in
    let w : ℕ = unsigned_abs (int_rem_euclid offset (pos (2 ^ len))) in
    let b : first ≡ pos w = a ∙ rem_is offset (2 ^ len) in
    let small : w < 2 ^ len = rem_fits offset (2 ^ len) (pow_pos len) in
    let one_fits : FitsSigned w128 from = rw is_last (number_fits last (omega arith)) in
    let first_fits : FitsSigned w128 first = rw b (number_fits w (omega arith)) in
    let both_fit : FitsSigned w128 (from -ℤ first) = rw (is_last, b) (difference_fits last w (omega arith) (omega arith)) in
    let d : second ≡ int_rem_euclid (from -ℤ first) (pos (2 ^ len)) =
    f ∙ (λ i. int_rem_euclid (to_z w128 (of_z w128 (to_z-of_z w128 from one_fits i -ℤ to_z-of_z w128 first first_fits i))) (modulus i))
    ∙ ap (λ z. int_rem_euclid z (pos (2 ^ len))) (to_z-of_z w128 (from -ℤ first) both_fit) in
    ap unsigned_abs (to_z-of_z w128 second fits_second ∙ d ∙ (λ i. int_rem_euclid (is_last i -ℤ a i) (pos (2 ^ len))) ∙ rem_first last offset (2 ^ len) (pow_pos len))
