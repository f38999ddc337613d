-- Calls that lead back.
use Rattle.std.proofs.Common.{◌≡◌, ◌↔◌, ℕ, ◌<◌, ◌⊎◌, inl, inr, Bool, List, [], length, get_or, slice_get, unwrap_or, true, false, IsTrue, refl, ap, sym, ◌∙◌, subst}
use Rattle.sem_graph.specs.Calls.{Calls, Reaches, by_call, further, Reached}
use Rattle.sem_graph.specs.Order.{Table, LeadsBack, NoReturn, is_marked}
use Rattle.sem_graph.proofs.OrderPushing.{unwrap_get}

-- the first call on the way
pub record First (To : ℕ → ℕ → Type 0) (i k : ℕ) : Type 0 where
  pub callee : ℕ
  pub call : To i callee
  pub rest : (callee ≡ k) ⊎ Reaches To callee k

pub first : {To : ℕ → ℕ → Type 0} {i k : ℕ} → Reaches To i k → First To i k
first {To} {i} {k} (by_call c) = record { callee = k; call = c; rest = inl refl }
first {To} {i} {k} (further r c) = let f = first r in record { callee = f.callee; call = f.call; rest = inr (elim f.rest as (λ _. Reaches To f.callee k) [ inl e ↦ by_call (subst (λ m. To m k) (sym e) c) | inr way ↦ further way c ]) }

pub decide : (graph : List (List ℕ)) → ((i j : ℕ) → Calls graph i j → LeadsBack graph i j → ⊥) → NoReturn graph
decide graph none i way = let f = first way in none i f.callee f.call f.rest

pub itself : (graph : List (List ℕ)) (caller callee : ℕ) → callee ≡ caller → IsTrue true ↔ LeadsBack graph caller callee
itself graph caller callee e = (λ _. inl e, λ _. refl)

pub by_marks : (graph : List (List ℕ)) (table : List (List Bool)) (caller callee : ℕ) (r : Bool) → (callee ≡ caller → ⊥) → r ≡ is_marked table callee caller
    → Table graph table → callee < length graph → IsTrue r ↔ LeadsBack graph caller callee
by_marks graph table caller callee r other is each within =
    let row : Reached graph callee (get_or table callee []) = each callee within in
    let same : r ≡ get_or (get_or table callee []) caller false =
    is ∙ (unwrap_get (unwrap_or (slice_get table callee) []) caller false ∙ ap (λ marks. get_or marks caller false) (unwrap_get table callee [])) in
    (λ t. inr (row.only caller (sym same ∙ t)), λ back. elim back as (λ _. IsTrue r) [ inl e ↦ absurd (other e) | inr way ↦ same ∙ row.all caller way ])
