-- Steps of numbers of 64 bits, and lists that are joined number by number.
use Rattle.std.proofs.Common.{◌≡◌, ◌∙◌, sym, ap, ℕ, suc, ◌+◌, ◌-◌, ◌<◌, ◌≤◌, ◌^◌, Bool, true, false, cond, ◌&&◌, nat_eq, nat_le, List, ◌++◌, length, append_assoc, arith}
use Rattle.std.specs.Prelude.{flat_map, Some, None, ℤ, pos, negsuc, ◌≤ℤ◌}
use Rattle.std.specs.Int.RustNames.{unsigned_abs}
use Rattle.sem_bits.specs.Number.{num}
use Rattle.tool_loss.specs.Step.{is_small, near_step, step_between, steps}
use Rattle.std.specs.List.{range_with_len}
use Rattle.std.proofs.lemmas.Int.{ints}
use Rattle.std.proofs.lemmas.Bool.{eq-eqb, le-leb}

pub is_pos : (z : ℤ) (n : ℕ) → pos 0 ≤ℤ z → n ≡ unsigned_abs z → z ≡ pos n
is_pos (pos m) n h e = sym (ap pos e)
is_pos (negsuc m) n h e = absurd (omega (arith, ints, h))

both : (a b : Bool) → a ≡ true → b ≡ true → (a && b) ≡ true
both true b e f = f
both false b e f = e

-- the step, and the steps that are taken, where all numbers are small
pub near_is : (k : ℕ) (bits p : ℤ) (r u : List Bool) → bits ≡ pos k → length r ≡ length u → length u ≤ 64 → k ≤ 64 → unsigned_abs p ≤ 2 ^ 64 →
    Some (steps k p (step_between (length u) (num r) (num u))) ≡ near_step bits p r u
near_is k bits p r u is same short fitting small =
    let a : nat_eq (length r) (length u) ≡ true = eq-eqb _ _ same in
    let b : nat_le (length u) 64 ≡ true = le-leb _ _ short in
    let c : nat_le k 64 ≡ true = le-leb _ _ fitting in
    let d : nat_le (unsigned_abs p) (2 ^ 64) ≡ true = le-leb _ _ small in
    let all : is_small k p r u ≡ true = both _ _ a (both _ _ b (both _ _ c d)) in
    sym (ap (λ z. near_step z p r u) is ∙ ap (λ t. cond t (Some (steps k p (step_between (length u) (num r) (num u)))) None) all)

-- what a function gives for each number from one on, joined
pub one_further : {B : Type 0} (f : ℕ → List B) (xs new all : List B) (i n : ℕ) → i < n → new ≡ xs ++ f i → xs ++ flat_map f (range_with_len i (n - i)) ≡ all → new ++ flat_map f (range_with_len (i + 1) (n - (i + 1))) ≡ all
one_further f xs new all i n h g so =
    let one : n - i ≡ suc (n - (i + 1)) = omega (arith, h) in
    let left = flat_map f (range_with_len (i + 1) (n - (i + 1))) in
    ap (λ ys. ys ++ left) g ∙ append_assoc xs (f i) left ∙ ap (λ k. xs ++ flat_map f (range_with_len i k)) (sym one) ∙ so
