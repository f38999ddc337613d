-- Products of whole numbers, and their order.
use Rattle.std.proofs.Common.{subst, suc, ◌*◌, ◌≤◌, ℤ, pos, negsuc, ◌*ℤ◌, ◌≤ℤ◌, ◌<ℤ◌, arith}
use Rattle.std.proofs.lemmas.Int.{ints, clamps, by_lt_z}
use Rattle.std.proofs.Math.IntN.{*ℤ_comm}
use Rattle.std.proofs.Math.Nat.{mul-le-mul_right}
use Rattle.std.specs.Int.{int_min, int_max}

-- a product with a number that is not negative keeps the order
pub grows : (a b y : ℤ) → a ≤ℤ b → pos 0 ≤ℤ y → (a *ℤ y) ≤ℤ (b *ℤ y)
grows (pos a) (pos b) (pos n) h k = let m : a * n ≤ b * n = mul-le-mul_right n (omega (arith, ints)) in omega (arith, ints)
grows (pos a) (negsuc b) (pos n) h k = absurd (omega (arith, ints))
grows (negsuc a) (pos b) (pos n) h k = omega (arith, ints)
grows (negsuc a) (negsuc b) (pos n) h k = let m : suc b * n ≤ suc a * n = mul-le-mul_right n (omega (arith, ints)) in omega (arith, ints)
grows a b (negsuc n) h k = absurd (omega (arith, ints))

-- one with a negative number turns it
pub shrinks : (a b y : ℤ) → a ≤ℤ b → y <ℤ pos 0 → (b *ℤ y) ≤ℤ (a *ℤ y)
shrinks (pos a) (pos b) (negsuc n) h k = let m : a * suc n ≤ b * suc n = mul-le-mul_right (suc n) (omega (arith, ints)) in omega (arith, ints)
shrinks (pos a) (negsuc b) (negsuc n) h k = absurd (omega (arith, ints))
shrinks (negsuc a) (pos b) (negsuc n) h k = omega (arith, ints)
shrinks (negsuc a) (negsuc b) (negsuc n) h k = let m : suc b * suc n ≤ suc a * suc n = mul-le-mul_right (suc n) (omega (arith, ints)) in omega (arith, ints)
shrinks a b (pos n) h k = absurd (omega (arith, ints))

pub record Between (p q v : ℤ) : Type 0 where
  pub low : int_min p q ≤ℤ v
  pub high : v ≤ℤ int_max p q

pub between : (a b x y : ℤ) → a ≤ℤ x → x ≤ℤ b → Between (a *ℤ y) (b *ℤ y) (x *ℤ y)
between a b x y h k =
    by_lt_z y (pos 0)
    (λ n. let p = shrinks a x y h n in let q = shrinks x b y k n in record { low = omega (arith, ints, clamps); high = omega (arith, ints, clamps) })
    (λ n. let p = grows a x y h n in let q = grows x b y k n in record { low = omega (arith, ints, clamps); high = omega (arith, ints, clamps) })

pub between_right : (a c d y : ℤ) → c ≤ℤ y → y ≤ℤ d → Between (a *ℤ c) (a *ℤ d) (a *ℤ y)
between_right a c d y h k =
    subst (λ z. Between z (a *ℤ d) (a *ℤ y)) (*ℤ_comm c a)
    (subst (λ z. Between (c *ℤ a) z (a *ℤ y)) (*ℤ_comm d a)
    (subst (λ z. Between (c *ℤ a) (d *ℤ a) z) (*ℤ_comm y a) (between c d y a h k)))
