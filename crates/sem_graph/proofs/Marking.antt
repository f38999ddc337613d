-- What the loops over marks keep.
use Rattle.std.proofs.Common.{◌≡◌, ℕ, ◌<◌, ◌+◌, ◌⊎◌, inl, inr, Bool, List, length, get_or, true, arith, slice_set, sym, subst, refl}
use Rattle.std.proofs.lemmas.List.{length-set}
use Rattle.std.proofs.lemmas.Bool.{cases_order}
use Rattle.std.proofs.lemmas.Grind.{common_steps}
use Rattle.sem_graph.specs.Calls.{Has, Marked}

pub record MarkedSo (old : List Bool) (names : List ℕ) (i : ℕ) (new : List Bool) : Type 0 where
  pub each : length new ≡ length old
  pub kept : (k : ℕ) → Marked old k → Marked new k
  pub all : (n : ℕ) → n < i → Marked new (get_or names n 0)
  pub only : (k : ℕ) → Marked new k → Marked old k ⊎ Has names k

pub set_keeps : (marks : List Bool) (i k : ℕ) → i < length marks → Marked marks k → Marked (slice_set marks i true) k
set_keeps marks i k within h = grind (arith, common_steps)

pub set_sets : (marks : List Bool) (i : ℕ) → i < length marks → Marked (slice_set marks i true) i
set_sets marks i within = grind (arith, common_steps)

pub set_only : (marks : List Bool) (i k : ℕ) → i < length marks → Marked (slice_set marks i true) k → Marked marks k ⊎ (k ≡ i)
set_only marks i k within h = grind (arith, common_steps)

pub eq_or_less : (n i : ℕ) → n < i + 1 → (n ≡ i) ⊎ (n < i)
eq_or_less n i lt = elim (cases_order n i) as (λ _. (n ≡ i) ⊎ (n < i)) [ inl e ↦ inl e | inr o ↦ elim o as (λ _. (n ≡ i) ⊎ (n < i)) [ inl l ↦ inr l | inr g ↦ absurd (omega arith) ] ]

pub more_marked : (old : List Bool) (names : List ℕ) (i : ℕ) (new : List Bool) → MarkedSo old names i new → i < length names → ((k : ℕ) → Has names k → k < length old) → MarkedSo old names (i + 1) (slice_set new (get_or names i 0) true)
more_marked old names i new so within fits =
    let inside : get_or names i 0 < length old = fits (get_or names i 0) (i, within, refl) in
    let inside_new : get_or names i 0 < length new = omega (arith, so.each) in
    record {
      each = simp length-set so.each;
      kept = λ k h. set_keeps new (get_or names i 0) k inside_new (so.kept k h);
      all = λ n lt. elim (eq_or_less n i lt) as (λ _. Marked (slice_set new (get_or names i 0) true) (get_or names n 0)) [
        | inl e ↦ subst (λ m. Marked (slice_set new (get_or names i 0) true) (get_or names m 0)) (sym e) (set_sets new (get_or names i 0) inside_new)
        | inr l ↦ set_keeps new (get_or names i 0) (get_or names n 0) inside_new (so.all n l)
      ];
      only = λ k h. elim (set_only new (get_or names i 0) k inside_new h) as (λ _. Marked old k ⊎ Has names k) [
        | inl m ↦ so.only k m
        | inr e ↦ inr (i, within, sym e)
      ];
    }
