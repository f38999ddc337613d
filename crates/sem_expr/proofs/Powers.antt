-- Powers of whole numbers.
use Rattle.std.proofs.Common.{◌≡◌, refl, sym, ap, ℕ, zero, suc, ◌*◌, ◌^◌, ◌%◌, Bool, true, false, cond, eqb, ℤ, pos, negsuc, ◌*ℤ◌, neg_ℤ, arith}
use Rattle.std.proofs.Math.Nat.{pow-suc, pow-zero, zero-mul}
use borrow.Author.Tests.{eqb-true, eqb-false}
use Rattle.std.specs.Int.{int_pow}

pub none_times : (x : ℤ) → int_pow x 0 ≡ pos 1
none_times (pos a) = ap pos (pow-zero a)
none_times (negsuc a) = ap pos (pow-zero (suc a))

neg_times : (m a : ℕ) → neg_ℤ (pos m) *ℤ negsuc a ≡ pos (m * suc a)
neg_times zero a = rw zero-mul refl
neg_times (suc m) a = refl

turned : (a n : ℕ) (b c : Bool) (m : ℕ) → eqb (n % 2) 0 ≡ b → eqb (suc n % 2) 0 ≡ c → cond c (pos (m * suc a)) (neg_ℤ (pos (m * suc a))) ≡ cond b (pos m) (neg_ℤ (pos m)) *ℤ negsuc a
turned a n true true m e f = absurd (omega (arith, eqb-true (n % 2) 0 e, eqb-true (suc n % 2) 0 f))
turned a n true false m e f = refl
turned a n false true m e f = sym (neg_times m a)
turned a n false false m e f = absurd (omega (arith, eqb-false (n % 2) 0 e, eqb-false (suc n % 2) 0 f))

pub once_more : (x : ℤ) (n : ℕ) → int_pow x (suc n) ≡ int_pow x n *ℤ x
once_more (pos a) n = ap pos (pow-suc a n)
once_more (negsuc a) n = rw pow-suc (turned a n _ _ (suc a ^ n) refl refl)
