-- A table that is filled in an order in which a method comes after those that it calls.
use Rattle.std.proofs.Common.{◌≡◌, ℕ, ◌<◌, ◌≤◌, ◌+◌, inl, inr, List, length, slice_get, slice_set, Some, arith, sym, ◌∙◌, subst}
use Rattle.std.proofs.lemmas.List.{length-set}
use Rattle.std.proofs.lemmas.Grind.{common_steps}
use Rattle.sem_graph.specs.Order.{IsOrder}
use Rattle.sem_graph.specs.Measures.{number_at}
use Rattle.sem_graph.proofs.Marking.{eq_or_less}
use Rattle.sem_graph.proofs.OrderPushing.{some_is}

-- what the rule gives for a method depends on the numbers of those that it calls alone
abbrev pub IsLocal : (ℕ → ℕ → Type 0) → (List ℕ → ℕ → ℕ) → Type 0
IsLocal To rule = (xs ys : List ℕ) (i : ℕ) → ((j : ℕ) → To i j → number_at xs j ≡ number_at ys j) → rule xs i ≡ rule ys i

pub record Filled (rule : List ℕ → ℕ → ℕ) (count : ℕ) (order : List ℕ) (k : ℕ) (values : List ℕ) : Type 0 where
  pub each : length values ≡ count
  pub is : (p i : ℕ) → p < k → slice_get order p ≡ Some i → number_at values i ≡ rule values i

same_there : (values : List ℕ) (m v : ℕ) → m < length values → number_at (slice_set values m v) m ≡ v
same_there values m v lt = grind (arith, common_steps)

same_elsewhere : (values : List ℕ) (m v j : ℕ) → (m ≡ j → ⊥) → number_at (slice_set values m v) j ≡ number_at values j
same_elsewhere values m v j other = grind (arith, common_steps)

pub filled_none : (rule : List ℕ → ℕ → ℕ) (count : ℕ) (order : List ℕ) (values : List ℕ) → length values ≡ count → Filled rule count order 0 values
filled_none rule count order values long = record { each = long; is = λ p i lt e. absurd (omega arith) }

pub filled_more : {To : ℕ → ℕ → Type 0} (rule : List ℕ → ℕ → ℕ) (count : ℕ) (order : List ℕ) (k : ℕ) (values : List ℕ) (m v : ℕ) → IsOrder To count order → IsLocal To rule
    → Filled rule count order k values → slice_get order k ≡ Some m → v ≡ rule values m → Filled rule count order (k + 1) (slice_set values m v)
filled_more {To} rule count order k values m v ordered local so here v_is =
    let inside : m < length values = let below = ordered.only k m here in let long = so.each in omega arith in
    let kept : (p i : ℕ) → p ≤ k → slice_get order p ≡ Some i → rule values i ≡ rule (slice_set values m v) i = λ p i most at.
    local values (slice_set values m v) i (λ j call.
    let there = ordered.callees_first p i j at call in
    sym (same_elsewhere values m v j (λ e. let one_place : there.0 ≡ k = ordered.once there.0 k m (subst (λ j. slice_get order there.0 ≡ Some j) (sym e) there.2) here in let less = there.1 in omega arith))) in
    record {
      each = length-set values m v ∙ so.each;
      is = λ p i lt at. elim (eq_or_less p k lt) as (λ _. number_at (slice_set values m v) i ≡ rule (slice_set values m v) i) [
        | inl e ↦
            let same : Some m ≡ Some i = sym here ∙ subst (λ p. slice_get order p ≡ Some i) e at in
            let i_is : m ≡ i = some_is same in
            subst (λ i. number_at (slice_set values m v) i ≡ rule (slice_set values m v) i) i_is (same_there values m v inside ∙ (v_is ∙ kept k m (omega arith) here))
        | inr l ↦
            same_elsewhere values m v i (λ e. let one_place : p ≡ k = ordered.once p k m (subst (λ i. slice_get order p ≡ Some i) (sym e) at) here in omega arith)
            ∙ (so.is p i l at ∙ kept p i (omega arith) at)
      ];
    }

pub filled_all : {To : ℕ → ℕ → Type 0} (rule : List ℕ → ℕ → ℕ) (count : ℕ) (order : List ℕ) (k : ℕ) (values : List ℕ) → IsOrder To count order → length order ≤ k
    → Filled rule count order k values → (i : ℕ) → i < count → number_at values i ≡ rule values i
filled_all rule count order k values ordered past so i lt = let there = ordered.each i lt in let below = there.1 in so.is there.0 i (omega arith) there.2
