-- The ends of chains of calls, one call after the other.
use Rattle.std.proofs.Common.{◌≡◌, ◌∙◌, refl, sym, subst, ap, ℕ, zero, suc, ◌<◌, ◌≤◌, ◌+◌, ◌⊎◌, inl, inr, Bool, true, false, List, [], ◌∷◌, length, slice_set, replicate, arith}
use Rattle.std.specs.Prelude.{slice_index_or}
use Rattle.std.proofs.lemmas.List.{length-set}
use Rattle.std.proofs.lemmas.Bool.{false≢true}
use Rattle.std.proofs.lemmas.Grind.{common_steps}
use Rattle.sem_graph.specs.Calls.{Calls, Has, Marked}
use Rattle.sem_graph.proofs.Marking.{set_sets, set_only, eq_or_less}
use Rattle.sem_graph.proofs.CallsWork.{unmarked}
use Rattle.sem_profile.specs.Limits.{Chain, at_top, called}
use Rattle.text_resolve.specs.CallDepth.{AreEnds, AreCalled}

unmarked_long : (n : ℕ) → length {A = Bool} (replicate n false) ≡ n
unmarked_long n = grind (arith, common_steps)

pub marked_inside : (marks : List Bool) (k : ℕ) → Marked marks k → k < length marks
marked_inside [] k h = absurd (false≢true h)
marked_inside (m ∷ ms) zero h = omega arith
marked_inside (m ∷ ms) (suc k) h = omega (arith, marked_inside ms k h)

some_methods : (graph : List (List ℕ)) (top j : ℕ) → Chain graph top 0 j → ⊥
some_methods graph top j chain = by 0 j chain refl
  where
    by : (n j : ℕ) → Chain graph top n j → n ≡ 0 → ⊥
    by n j at_top e = absurd (omega (arith, e))
    by n j (called chain calls) e = absurd (omega (arith, e))

one_method : (graph : List (List ℕ)) (top j : ℕ) → Chain graph top 1 j → j ≡ top
one_method graph top j chain = by 1 j chain refl
  where
    by : (n j : ℕ) → Chain graph top n j → n ≡ 1 → j ≡ top
    by n j at_top e = refl
    by n j (called {n = m} {i = i} chain calls) e = absurd (some_methods graph top i (subst (λ k. Chain graph top k i) (let z : m ≡ 0 = omega (arith, e) in z) chain))

-- a chain of one method leads to the top alone
pub first_ends : (graph : List (List ℕ)) (top : ℕ) (marks : List Bool) → top < length graph → marks ≡ replicate (length graph) false → AreEnds graph top 1 (slice_set marks top true)
first_ends graph top marks within are =
    let long : length marks ≡ length graph = ap length are ∙ unmarked_long (length graph) in
    let inside : top < length marks = omega (arith, long, within) in
    record {
      each = simp length-set long;
      only = λ j h. elim (set_only marks top j inside h) as (λ _. Chain graph top 1 j) [
        | inl m ↦ absurd (unmarked (length graph) j (subst (λ xs. Marked xs j) are m))
        | inr e ↦ subst (Chain graph top 1) (sym e) at_top
      ];
      all = λ j chain. subst (Marked (slice_set marks top true)) (sym (one_method graph top j chain)) (set_sets marks top inside);
    }

-- what the ends of chains call are the ends of chains of one method more
pub next_ends : (graph : List (List ℕ)) (top n : ℕ) (old new : List Bool) → AreEnds graph top (suc n) old → AreCalled graph old new → AreEnds graph top (suc (suc n)) new
next_ends graph top n old new ends are = record {
  each = are.each;
  only = λ j h. let by = are.only j h in called (ends.only by.0 by.1) by.2;
  all = λ j chain. longer (suc (suc n)) j chain refl;
}
  where
    longer : (k j : ℕ) → Chain graph top k j → k ≡ suc (suc n) → Marked new j
    longer k j at_top e = absurd (omega (arith, e))
    longer k j (called {n = m} {i = i} chain calls) e =
        are.all i j (ends.all i (subst (λ l. Chain graph top l i) (let z : m ≡ suc n = omega (arith, e) in z) chain)) calls

-- after so many callers
pub record CalledSo (graph : List (List ℕ)) (callers : List Bool) (past : ℕ) (marks : List Bool) : Type 0 where
  pub each : length marks ≡ length graph
  pub only : (j : ℕ) → Marked marks j → (i : ℕ) × Marked callers i × Calls graph i j
  pub all : (i j : ℕ) → i < past → Marked callers i → Calls graph i j → Marked marks j

pub called_none : (graph : List (List ℕ)) (callers marks : List Bool) → marks ≡ replicate (length graph) false → CalledSo graph callers 0 marks
called_none graph callers marks are = record {
  each = ap length are ∙ unmarked_long (length graph);
  only = λ j h. absurd (unmarked (length graph) j (subst (λ xs. Marked xs j) are h));
  all = λ i j lt m calls. absurd (omega (arith, lt));
}

pub called_more : (graph : List (List ℕ)) (callers : List Bool) (past : ℕ) (row : List ℕ) (old new : List Bool) → CalledSo graph callers past old → past < length graph → row ≡ slice_index_or graph past []
    → Marked callers past → length new ≡ length old → ((k : ℕ) → Marked old k → Marked new k) → ((k : ℕ) → Has row k → Marked new k) → ((k : ℕ) → Marked new k → Marked old k ⊎ Has row k)
    → CalledSo graph callers (past + 1) new
called_more graph callers past row old new so within row_is marked each kept all only = record {
  each = each ∙ so.each;
  only = λ j h. elim (only j h) as (λ _. (i : ℕ) × Marked callers i × Calls graph i j) [
    | inl before ↦ so.only j before
    | inr has ↦ (past, marked, (within, subst (λ xs. Has xs j) row_is has))
  ];
  all = λ i j lt m calls. elim (eq_or_less i past lt) as (λ _. Marked new j) [
    | inl e ↦ all j (subst (λ xs. Has xs j) (sym (row_is ∙ ap (λ k. slice_index_or graph k []) (sym e))) calls.1)
    | inr less ↦ kept j (so.all i j less m calls)
  ];
}

pub called_same : (graph : List (List ℕ)) (callers : List Bool) (past : ℕ) (marks : List Bool) → CalledSo graph callers past marks → slice_index_or callers past false ≡ false → CalledSo graph callers (past + 1) marks
called_same graph callers past marks so not_marked = record {
  each = so.each;
  only = so.only;
  all = λ i j lt m calls. elim (eq_or_less i past lt) as (λ _. Marked marks j) [
    | inl e ↦ absurd (false≢true (sym not_marked ∙ ap (λ k. slice_index_or callers k false) (sym e) ∙ m))
    | inr less ↦ so.all i j less m calls
  ];
}

pub called_all : (graph : List (List ℕ)) (callers : List Bool) (past : ℕ) (marks : List Bool) → CalledSo graph callers past marks → length graph ≤ past → AreCalled graph callers marks
called_all graph callers past marks so all_past = record {
  each = so.each;
  only = so.only;
  all = λ i j m calls. so.all i j (omega (arith, all_past, calls.0)) m calls;
}
