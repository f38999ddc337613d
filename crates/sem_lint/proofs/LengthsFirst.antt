-- The first of something, found by trying one place after the other.
use Rattle.std.proofs.Common.{◌≡◌, refl, sym, subst, ℕ, ◌<◌, ◌+◌, Bool, true, false, nat_eq, arith}
use Rattle.std.proofs.lemmas.Bool.{eqb-true, eqb-false}

-- what no place before has, nor this one, no place up to here has
pub none_up_to : {X : Type 0} (P : ℕ → X → Type 0) (n : ℕ) → ((i : ℕ) (x : X) → i < n → P i x → ⊥) → ((x : X) → P n x → ⊥) → (i : ℕ) (x : X) → i < n + 1 → P i x → ⊥
none_up_to P n before here i x lt has = by (nat_eq i n) refl
  where
    by : (b : Bool) → nat_eq i n ≡ b → ⊥
    by true e = here x (subst (λ j. P j x) (eqb-true i n e) has)
    by false e = before i x (let differ = eqb-false i n e in omega (arith, lt, differ)) has

-- what each place before has, and this one, each up to here has
pub all_up_to : (P : ℕ → Type 0) (n : ℕ) → ((i : ℕ) → i < n → P i) → P n → (i : ℕ) (lt : i < n + 1) → P i
all_up_to P n before here i lt = by (nat_eq i n) refl
  where
    by : (b : Bool) → nat_eq i n ≡ b → P i
    by true e = subst P (sym (eqb-true i n e)) here
    by false e = before i (let differ = eqb-false i n e in omega (arith, lt, differ))
