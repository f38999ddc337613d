-- What is left of a remainder.
use Rattle.std.proofs.Common.{◌≡◌, refl, sym, ◌∙◌, ap, subst, ℕ, zero, suc, ◌*◌, ◌+◌, ◌≤◌, ◌<◌, ℤ, pos, negsuc, ◌+ℤ◌, ◌*ℤ◌, ◌≤ℤ◌, ◌<ℤ◌, neg_ℤ, arith}
use Rattle.std.specs.Prelude.{Option, Some, None, ◌-ℤ◌}
use Rattle.std.specs.Int.{int_rem_euclid}
use Rattle.std.proofs.lemmas.Int.{ints, by_lt_z}
use Rattle.std.proofs.Math.IntN.{*ℤ_comm, suc_ℤ-*ℤ, suc_ℤ}
use Rattle.sem_expr.specs.Values.{floor_by, remainder}
use Rattle.sem_expr.proofs.ValuesFloors.{FloorBy, floor_is}
use Rattle.sem_expr.proofs.RulesProducts.{grows}

suc_is : (p : ℤ) → suc_ℤ p ≡ p +ℤ pos 1
suc_is (pos n) = omega (arith, ints)
suc_is (negsuc zero) = omega (arith, ints)
suc_is (negsuc (suc n)) = omega (arith, ints)

-- a multiple of a greater number is greater by the whole divisor
next_multiple : (d : ℕ) (p q : ℤ) → p <ℤ q → (pos (suc d) *ℤ p +ℤ pos (suc d)) ≤ℤ (pos (suc d) *ℤ q)
next_multiple d p q h =
    let c = pos (suc d) in
    let step = suc_is p in
    let up : suc_ℤ p ≤ℤ q = omega (arith, ints) in
    let m : (suc_ℤ p *ℤ c) ≤ℤ (q *ℤ c) = grows (suc_ℤ p) q c up (omega (arith, ints)) in
    let n : (p *ℤ c +ℤ c) ≤ℤ (q *ℤ c) = subst (λ z. z ≤ℤ (q *ℤ c)) (suc_ℤ-*ℤ p c) m in
    subst (λ z. (z +ℤ c) ≤ℤ (c *ℤ q)) (*ℤ_comm p c) (subst (λ z. (p *ℤ c +ℤ c) ≤ℤ z) (*ℤ_comm q c) n)

-- a number has one quotient
one_floor : (d : ℕ) (x p q : ℤ) → FloorBy d x p → FloorBy d x q → p ≡ q
one_floor d x p q h k =
    by_lt_z p q
    (λ below. absurd (let m = next_multiple d p q below in let low = k.low in let high = h.high in omega (arith, ints)))
    (λ above. by_lt_z q p
    (λ below. absurd (let m = next_multiple d q p below in let low = h.low in let high = k.high in omega (arith, ints)))
    (λ other. omega (arith, ints)))

negated : (d : ℕ) (q : ℤ) → pos (suc d) *ℤ neg_ℤ q ≡ neg_ℤ (pos (suc d) *ℤ q)
negated d (pos zero) = omega (arith, ints)
negated d (pos (suc n)) = omega (arith, ints)
negated d (negsuc n) = omega (arith, ints)

some_is : {A : Type 0} (x y : A) → Some x ≡ Some y → x ≡ y
some_is x y e = cc

-- what is left of it gives the number back, where that is below the divisor
pub record IsLeft (v : ℕ) (e c r : ℤ) : Type 0 where
  pub above : pos 0 ≤ℤ r
  pub below : r <ℤ c
  pub back : remainder (r -ℤ e) c ≡ Some (pos v)

pub left_over : (v : ℕ) (e c r : ℤ) → pos v <ℤ c → remainder (pos v +ℤ e) c ≡ Some r → IsLeft v e c r
left_over v e (pos zero) r below is = absurd (omega (arith, ints))
left_over v e (negsuc d) r below is = absurd (omega (arith, ints))
left_over v e (pos (suc d)) r below is =
    let c = pos (suc d) in
    let x = pos v +ℤ e in
    let q = floor_by (suc d) x in
    let f = floor_is d x in
    let r_is : x -ℤ (c *ℤ q) ≡ r = some_is (x -ℤ (c *ℤ q)) r is in
    let low = f.low in
    let high = f.high in
    let turned = negated d q in
    let y = r -ℤ e in
    let g : FloorBy d y (neg_ℤ q) = record { low = omega (arith, ints); high = omega (arith, ints) } in
    let one : floor_by (suc d) y ≡ neg_ℤ q = one_floor d y (floor_by (suc d) y) (neg_ℤ q) (floor_is d y) g in
    let back : y -ℤ (c *ℤ neg_ℤ q) ≡ pos v = omega (arith, ints) in
    record {
      above = omega (arith, ints);
      below = omega (arith, ints);
      back = ap (λ z. Some (y -ℤ (c *ℤ z))) one ∙ ap Some back;
    }

-- ---- the same, from the remainder of what is added

-- a number below the divisor, and a multiple of it
one_rest : (d : ℕ) (y p r : ℤ) → y ≡ (pos (suc d) *ℤ p) +ℤ r → pos 0 ≤ℤ r → r <ℤ pos (suc d) → remainder y (pos (suc d)) ≡ Some r
one_rest d y p r is above below =
    let c = pos (suc d) in
    let g : FloorBy d y p = record { low = omega (arith, ints); high = omega (arith, ints) } in
    let one : floor_by (suc d) y ≡ p = one_floor d y (floor_by (suc d) y) p (floor_is d y) g in
    let left : y -ℤ (c *ℤ p) ≡ r = omega (arith, ints) in
    ap (λ z. Some (y -ℤ (c *ℤ z))) one ∙ ap Some left

pub euclid_is : (d : ℕ) (x : ℤ) → int_rem_euclid x (pos (suc d)) ≡ x -ℤ (pos (suc d) *ℤ floor_by (suc d) x)
euclid_is d (pos a) = omega (arith, ints)
euclid_is d (negsuc a) = omega (arith, ints)

-- what is left without what is added, by the remainder that was taken of that
pub record Remains (left more by taken : ℤ) : Type 0 where
  pub up : taken ≤ℤ left → remainder (left -ℤ more) by ≡ Some (left -ℤ taken)
  pub over : left <ℤ taken → remainder (left -ℤ more) by ≡ Some ((left -ℤ taken) +ℤ by)

pub remains : (left more by taken : ℤ) → taken ≡ int_rem_euclid more by → pos 0 ≤ℤ left → left <ℤ by → Remains left more by taken
remains left more (pos zero) taken is above below = absurd (omega (arith, ints))
remains left more (negsuc d) taken is above below = absurd (omega (arith, ints))
remains left more (pos (suc d)) taken is above below =
    let c = pos (suc d) in
    let q = floor_by (suc d) more in
    let f = floor_is d more in
    let low = f.low in
    let high = f.high in
    let taken_is : taken ≡ more -ℤ (c *ℤ q) = is ∙ euclid_is d more in
    let turned = negated d q in
    let turned_more = negated d (suc_ℤ q) in
    let next : c *ℤ suc_ℤ q ≡ (c *ℤ q) +ℤ c = *ℤ_comm c (suc_ℤ q) ∙ (suc_ℤ-*ℤ q c ∙ ap (λ z. z +ℤ c) (*ℤ_comm q c)) in
    record {
      up = λ h. one_rest d (left -ℤ more) (neg_ℤ q) (left -ℤ taken) (omega (arith, ints)) (omega (arith, ints)) (omega (arith, ints));
      over = λ h. one_rest d (left -ℤ more) (neg_ℤ (suc_ℤ q)) ((left -ℤ taken) +ℤ c) (omega (arith, ints)) (omega (arith, ints)) (omega (arith, ints));
    }
