-- Whether each number of so many bits is below a divisor, in 128 bits.
use Rattle.std.proofs.Common.{◌≡◌, refl, sym, ◌∙◌, ap, ℕ, ◌+◌, ◌*◌, ◌%◌, ◌^◌, ◌<◌, ◌≤◌, Bool, true, false, nat_lt, ℤ, pos, negsuc, ◌≤ℤ◌, ◌<ℤ◌, to_z, of_z, arith}
use Rattle.std.specs.Prelude.{int_le}
use Rattle.std.proofs.lemmas.Bool.{ltb-true}
use Rattle.std.proofs.lemmas.Int.{ints, to_z-of_z, to_z_pos}
use Rattle.std.proofs.lemmas.Nat.{pow_below}
use Rattle.std.proofs.Math.Nat.{pow-le-pow_right}
use Rattle.sem_expr.proofs.RulesLimits.{le_true}
use mir.Syntax.{w128}
use mir.Val.{SFits}
use Rattle.cert_rules.specs.Rules.{is_reached}

false_of : (b : Bool) → (b ≡ true → ⊥) → b ≡ false
false_of true h = absurd (h refl)
false_of false h = refl

-- where the number of bits leaves room
pub below : (bits : ℕ) (by : ℤ) → SFits w128 by → bits < 127 → int_le (to_z w128 (1 * 2 ^ bits % 340282366920938463463374607431768211456)) (to_z w128 (of_z w128 by)) ≡ is_reached bits by
below bits by fits small =
    let low : 2 ^ bits < 2 ^ 127 = pow_below bits 127 small in
    let same : 1 * 2 ^ bits % 340282366920938463463374607431768211456 ≡ 2 ^ bits = omega (arith, low) in
    let first : to_z w128 (1 * 2 ^ bits % 340282366920938463463374607431768211456) ≡ pos (2 ^ bits) = ap (to_z w128) same ∙ to_z_pos w128 (2 ^ bits) low in
    λ i. int_le (first i) (to_z-of_z w128 by fits i)

-- no divisor is that large
too_large : (bits : ℕ) (by : ℤ) → SFits w128 by → 2 ^ 127 ≤ 2 ^ bits → pos (2 ^ bits) ≤ℤ by → ⊥
too_large bits (pos n) fits high reached = let few : n < 2 ^ 127 = fits.sfits in omega (arith, ints, few, high, reached)
too_large bits (negsuc n) fits high reached = omega (arith, ints, reached)

pub above : (bits : ℕ) (by : ℤ) → SFits w128 by → 127 ≤ bits → nat_lt bits 127 ≡ is_reached bits by
above bits by fits large =
    let high : 2 ^ 127 ≤ 2 ^ bits = pow-le-pow_right (omega arith) large in
    false_of (nat_lt bits 127) (λ e. let small = ltb-true bits 127 e in omega (arith, small, large))
    ∙ sym (false_of (int_le (pos (2 ^ bits)) by) (λ h. too_large bits by fits high (le_true (pos (2 ^ bits)) by h)))
