-- The order of faults, by their places and then by their numbers.
use Rattle.std.proofs.Common.{◌≡◌, ℕ, ◌<◌, ◌≤◌, ◌⊎◌, inl, inr, Bool, true, false, refl, cond, nat_eq, nat_lt, arith}
use Rattle.std.proofs.lemmas.Bool.{eqb-true, eqb-false, ltb-true, ltb-false}
use Rattle.sem_profile.specs.declared.fault.ProfileFault.{ProfileFault}
use Rattle.sem_profile.specs.Faults.{number_of}
use Rattle.sem_profile.specs.Precedence.{comes_before}

below : (p m q n : ℕ) → cond (nat_eq p q) (nat_lt m n) (nat_lt p q) ≡ true → (p < q) ⊎ ((p ≡ q) × (m < n))
below p m q n h = by (nat_eq p q) refl h
  where
    by : (b : Bool) → nat_eq p q ≡ b → cond b (nat_lt m n) (nat_lt p q) ≡ true → (p < q) ⊎ ((p ≡ q) × (m < n))
    by true e h = inr (eqb-true p q e, ltb-true m n h)
    by false e h = inl (ltb-true p q h)

not_below : (p m q n : ℕ) → cond (nat_eq p q) (nat_lt m n) (nat_lt p q) ≡ false → (q < p) ⊎ ((p ≡ q) × (n ≤ m))
not_below p m q n h = by (nat_eq p q) refl h
  where
    by : (b : Bool) → nat_eq p q ≡ b → cond b (nat_lt m n) (nat_lt p q) ≡ false → (q < p) ⊎ ((p ≡ q) × (n ≤ m))
    by true e h = inr (eqb-true p q e, ltb-false m n h)
    by false e h = let other = eqb-false p q e in let most = ltb-false p q h in inl (omega arith)

no_round : {p m q n r l : ℕ} → (p < r) ⊎ ((p ≡ r) × (m < l)) → (r < q) ⊎ ((r ≡ q) × (l < n)) → (q < p) ⊎ ((p ≡ q) × (n ≤ m)) → ⊥
no_round (inl a) (inl b) (inl c) = omega arith
no_round (inl a) (inl b) (inr c) = let e = c.0 in omega arith
no_round (inl a) (inr b) (inl c) = let d = b.0 in omega arith
no_round (inl a) (inr b) (inr c) = let d = b.0 in let e = c.0 in omega arith
no_round (inr a) (inl b) (inl c) = let f = a.0 in omega arith
no_round (inr a) (inl b) (inr c) = let f = a.0 in let e = c.0 in omega arith
no_round (inr a) (inr b) (inl c) = let f = a.0 in let d = b.0 in omega arith
no_round (inr a) (inr b) (inr c) = let f = a.1 in let d = b.1 in let e = c.1 in omega arith

-- no fault comes before itself
pub not_itself : (f : ProfileFault) → comes_before f f ≡ false
not_itself f = by (comes_before f f) refl
  where
    impossible : {p m : ℕ} → (p < p) ⊎ ((p ≡ p) × (m < m)) → ⊥
    impossible (inl a) = omega arith
    impossible (inr a) = let d = a.1 in omega arith

    by : (b : Bool) → comes_before f f ≡ b → comes_before f f ≡ false
    by true e = absurd (impossible (below f.at.from (number_of f.kind) f.at.from (number_of f.kind) e))
    by false e = e

-- what does not come before a fault does not come before an earlier one
pub nor_before : (g old f : ProfileFault) → comes_before g old ≡ false → comes_before f old ≡ true → comes_before g f ≡ false
nor_before g old f later sooner = by (comes_before g f) refl
  where
    by : (b : Bool) → comes_before g f ≡ b → comes_before g f ≡ false
    by true e = absurd (no_round (below g.at.from (number_of g.kind) f.at.from (number_of f.kind) e)
        (below f.at.from (number_of f.kind) old.at.from (number_of old.kind) sooner)
        (not_below g.at.from (number_of g.kind) old.at.from (number_of old.kind) later))
    by false e = e
