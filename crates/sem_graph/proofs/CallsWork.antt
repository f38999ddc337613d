-- What the work on what is open keeps.
use Rattle.std.proofs.Common.{◌≡◌, ℕ, ◌<◌, ◌≤◌, ◌-◌, ◌⊎◌, inl, inr, Bool, List, [], ◌∷◌, suc, zero, length, get_or, replicate, true, false, arith, slice_set, sym, subst, ap, ◌∙◌, refl}
use Rattle.std.proofs.lemmas.List.{length-set}
use Rattle.std.proofs.lemmas.Grind.{common_steps}
use Rattle.sem_graph.specs.Calls.{Has, Marked, Calls, Reaches, by_call, further, Reached, Within, marked}
use Rattle.sem_graph.proofs.Marking.{set_only}

pub record Work (graph : List (List ℕ)) (from : ℕ) (found done : List Bool) : Type 0 where
  pub found_each : length found ≡ length graph
  pub done_each : length done ≡ length graph
  pub only : (k : ℕ) → Marked found k → Reaches (Calls graph) from k
  pub first : (k : ℕ) → Calls graph from k → Marked found k
  pub next : (j k : ℕ) → Marked done j → Calls graph j k → Marked found k

pub row_here : (graph : List (List ℕ)) (i : ℕ) (row : List ℕ) → i < length graph → row ≡ get_or graph i row → row ≡ get_or graph i []
row_here graph i row within is = grind (arith, common_steps)

pub unmarked : (n k : ℕ) → Marked (replicate n false) k → ⊥
unmarked n k h = grind (arith, common_steps)

-- what a call of `mark` gives
pub record Marks (names : List ℕ) (old new : List Bool) : Type 0 where
  pub each : length new ≡ length old
  pub kept : (k : ℕ) → Marked old k → Marked new k
  pub all : (k : ℕ) → Has names k → Marked new k
  pub only : (k : ℕ) → Marked new k → Marked old k ⊎ Has names k

pub begins : (graph : List (List ℕ)) (from : ℕ) (row : List ℕ) (blank found done : List Bool) → from < length graph → row ≡ get_or graph from row
    → blank ≡ replicate (length graph) false → done ≡ replicate (length graph) false → Marks row blank found → Work graph from found done
begins graph from row blank found done within is blank_is done_is marks =
    let here : row ≡ get_or graph from [] = row_here graph from row within is in
    let none : length (replicate (length graph) false) ≡ length graph = grind (arith, common_steps) in
    record {
      found_each = marks.each ∙ (ap length blank_is ∙ none);
      done_each = ap length done_is ∙ none;
      only = λ k h. elim (marks.only k h) as (λ _. Reaches (Calls graph) from k) [
        | inl m ↦ absurd (unmarked (length graph) k (subst (λ b. Marked b k) blank_is m))
        | inr has ↦ by_call (within, subst (λ r. Has r k) here has)
      ];
      first = λ k c. marks.all k (subst (λ r. Has r k) (sym here) c.1);
      next = λ j k m c. absurd (unmarked (length graph) j (subst (λ b. Marked b j) done_is m));
    }

pub goes_on : (graph : List (List ℕ)) (from : ℕ) (found done : List Bool) (at : ℕ) (row : List ℕ) (new : List Bool) → Work graph from found done → Marked found at → at < length done
    → row ≡ get_or graph at row → Marks row found new → Work graph from new (slice_set done at true)
goes_on graph from found done at row new work mark within is marks =
    let inside : at < length graph = omega (arith, work.done_each) in
    let here : row ≡ get_or graph at [] = row_here graph at row inside is in
    record {
      found_each = marks.each ∙ work.found_each;
      done_each = simp length-set work.done_each;
      only = λ k h. elim (marks.only k h) as (λ _. Reaches (Calls graph) from k) [
        | inl m ↦ work.only k m
        | inr has ↦ further (work.only at mark) (inside, subst (λ r. Has r k) here has)
      ];
      first = λ k c. marks.kept k (work.first k c);
      next = λ j k m c. elim (set_only done at j within m) as (λ _. Marked new k) [
        | inl d ↦ marks.kept k (work.next j k d c)
        | inr e ↦ marks.all k (subst (λ r. Has r k) (sym here) (subst (λ i. Calls graph i k) e c).1)
      ];
    }

pub all_found : {graph : List (List ℕ)} {from k : ℕ} (found done : List Bool) → Work graph from found done → ((k : ℕ) → Marked found k → Marked done k) → Reaches (Calls graph) from k → Marked found k
all_found found done work closed (by_call c) = work.first _ c
all_found found done work closed (further r c) = work.next _ _ (closed _ (all_found found done work closed r)) c

pub ends : (graph : List (List ℕ)) (from : ℕ) (found done : List Bool) → Work graph from found done → ((k : ℕ) → Marked found k → Marked done k) → Reached graph from found
ends graph from found done work closed = record { each = work.found_each; only = work.only; all = λ k r. all_found found done work closed r }

pub marked_within : (marks : List Bool) → marked marks ≤ length marks
marked_within [] = omega arith
marked_within (true ∷ marks) = omega (arith, marked_within marks)
marked_within (false ∷ marks) = omega (arith, marked_within marks)

pub one_more : (marks : List Bool) (i : ℕ) → i < length marks → get_or marks i true ≡ false → marked (slice_set marks i true) ≡ suc (marked marks)
one_more [] i lt h = absurd (omega arith)
one_more (true ∷ marks) zero lt h = absurd cc
one_more (false ∷ marks) zero lt h = refl
one_more (true ∷ marks) (suc i) lt h = ap suc (one_more marks i (omega arith) h)
one_more (false ∷ marks) (suc i) lt h = one_more marks i (omega arith) h

pub falls : (n : ℕ) (marks : List Bool) (i : ℕ) → length marks ≡ n → i < length marks → get_or marks i true ≡ false → n - marked (slice_set marks i true) < n - marked marks
falls n marks i each lt h =
    let more : marked (slice_set marks i true) ≡ suc (marked marks) = one_more marks i lt h in
    let below : marked (slice_set marks i true) ≤ length (slice_set marks i true) = marked_within (slice_set marks i true) in
    let long : length (slice_set marks i true) ≡ length marks = length-set marks i true in
    omega arith

pub fits : (graph : List (List ℕ)) (i : ℕ) (row names : List ℕ) (n : ℕ) → Within graph → i < length graph → row ≡ get_or graph i row → names ≡ row → n ≡ length graph
    → (k : ℕ) → Has names k → k < n
fits graph i row names n within lt is same count k has =
    let here : row ≡ get_or graph i [] = row_here graph i row lt is in
    let below : k < length graph = within i k (lt, subst (λ r. Has r k) (same ∙ here) has) in
    omega arith

pub blank_length : (n : ℕ) (marks : List Bool) → marks ≡ replicate n false → length marks ≡ n
blank_length n marks is = grind (arith, common_steps)
