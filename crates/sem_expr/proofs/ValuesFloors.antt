-- Quotients that are rounded towards minus infinity, and their remainders.
use Rattle.std.proofs.Common.{◌≡◌, ◌≢◌, refl, sym, ℕ, zero, suc, ◌*◌, ℤ, pos, negsuc, ◌+ℤ◌, ◌*ℤ◌, ◌≤ℤ◌, ◌<ℤ◌, neg_ℤ, arith}
use Rattle.std.specs.Prelude.{IsSomeAnd}
use Rattle.std.proofs.lemmas.Int.{ints}
use Rattle.std.proofs.Math.Nat.{div-le_self}
use Rattle.std.proofs.Math.IntN.{neg_ℤ-neg_ℤ}
use Rattle.sem_expr.specs.Values.{floor_by, quotient}
use Rattle.sem_expr.specs.Laws.{IsFloor}

pub record FloorBy (d : ℕ) (x q : ℤ) : Type 0 where
  pub low : (pos (suc d) *ℤ q) ≤ℤ x
  pub high : x <ℤ (pos (suc d) *ℤ q +ℤ pos (suc d))

pub floor_is : (d : ℕ) (x : ℤ) → FloorBy d x (floor_by (suc d) x)
floor_is d (pos a) = record { low = omega (arith, ints); high = omega (arith, ints) }
floor_is d (negsuc a) = record { low = omega (arith, ints); high = omega (arith, ints) }

turned : (d : ℕ) (q : ℤ) → negsuc d *ℤ q ≡ neg_ℤ (pos (suc d) *ℤ q)
turned d (pos n) = refl
turned d (negsuc n) = sym (neg_ℤ-neg_ℤ (pos (suc d * suc n)))

pub is_floor : (x y : ℤ) → y ≢ pos 0 → IsSomeAnd (quotient x y) (IsFloor x y)
is_floor x (pos zero) h = absurd (h refl)
is_floor x (pos (suc d)) h =
    let f = floor_is d x in
    record { above_zero = λ p. (f.low, f.high); below_zero = λ p. absurd (omega (arith, ints)) }
is_floor x (negsuc d) h =
    let f = floor_is d (neg_ℤ x) in
    let e = turned d (floor_by (suc d) (neg_ℤ x)) in
    record { above_zero = λ p. absurd (omega (arith, ints)); below_zero = λ p. (omega (arith, ints), omega (arith, ints)) }

-- how far a quotient is from 0
pub record Nearer (x q : ℤ) : Type 0 where
  pub above : pos 0 ≤ℤ x → (pos 0 ≤ℤ q) × (q ≤ℤ x)
  pub below : x <ℤ pos 0 → (x ≤ℤ q) × (q <ℤ pos 0)

pub nearer : (d : ℕ) (x : ℤ) → Nearer x (floor_by (suc d) x)
nearer d (pos a) = record { above = λ h. (omega (arith, ints), omega (arith, ints, div-le_self a (suc d))); below = λ h. absurd (omega (arith, ints)) }
nearer d (negsuc a) = record { above = λ h. absurd (omega (arith, ints)); below = λ h. (omega (arith, ints, div-le_self a (suc d)), omega (arith, ints)) }
