-- Numbers of candidates up to the greatest of 64 bits.
use Rattle.std.proofs.Common.{◌≡◌, ℕ, ◌≤◌, ◌^◌, sym, arith}
use Rattle.std.specs.Prelude.{min}
use Rattle.std.proofs.Math.Nat.{min-eq_right, pow-le-pow_right}

-- the ways to choose more bits than a word has
pub many_bits : (n : ℕ) → 64 ≤ n → 18446744073709551615 ≡ min (2 ^ n) 18446744073709551615
many_bits n many =
    let up : 2 ^ 64 ≤ 2 ^ n = pow-le-pow_right (omega arith) many in
    sym (min-eq_right (omega (arith, up)))
