-- Where no method reaches itself, the count of what a method reaches falls along each call.
use Rattle.std.proofs.Common.{◌≡◌, ℕ, ◌<◌, ◌≤◌, Bool, List, [], ◌∷◌, suc, zero, length, get_or, true, false, arith, refl, sym, ◌∙◌}
use Rattle.sem_graph.specs.Calls.{Marked, Reaches, by_call, further, Reached, Within, marked}
use Rattle.sem_graph.specs.Order.{Table, NoReturn, rank, Ranked}

-- what the callee reaches, the caller reaches
pub before : {To : ℕ → ℕ → Type 0} {i j k : ℕ} → To i j → Reaches To j k → Reaches To i k
before c (by_call d) = further (by_call c) d
before c (further r d) = further (before c r) d

-- fewer marks, or as many
pub fewer : (a b : List Bool) → length a ≡ length b → ((k : ℕ) → Marked a k → Marked b k) → marked a ≤ marked b
fewer [] b same sub = omega arith
fewer (x ∷ a) [] same sub = absurd (omega arith)
fewer (true ∷ a) (true ∷ b) same sub = omega (arith, fewer a b (omega arith) (λ k h. sub (suc k) h))
fewer (true ∷ a) (false ∷ b) same sub = let wrong : false ≡ true = sub 0 refl in absurd cc
fewer (false ∷ a) (true ∷ b) same sub = omega (arith, fewer a b (omega arith) (λ k h. sub (suc k) h))
fewer (false ∷ a) (false ∷ b) same sub = fewer a b (omega arith) (λ k h. sub (suc k) h)

-- one mark is the second's alone
pub fewer_by_one : (a b : List Bool) (i : ℕ) → length a ≡ length b → ((k : ℕ) → Marked a k → Marked b k) → Marked b i → (Marked a i → ⊥) → marked a < marked b
fewer_by_one [] [] i same sub m never = absurd cc
fewer_by_one [] (y ∷ b) i same sub m never = absurd (omega arith)
fewer_by_one (x ∷ a) [] i same sub m never = absurd (omega arith)
fewer_by_one (true ∷ a) (y ∷ b) zero same sub m never = absurd (never refl)
fewer_by_one (false ∷ a) (true ∷ b) zero same sub m never = omega (arith, fewer a b (omega arith) (λ k h. sub (suc k) h))
fewer_by_one (false ∷ a) (false ∷ b) zero same sub m never = absurd cc
fewer_by_one (true ∷ a) (true ∷ b) (suc i) same sub m never = omega (arith, fewer_by_one a b i (omega arith) (λ k h. sub (suc k) h) m never)
fewer_by_one (true ∷ a) (false ∷ b) (suc i) same sub m never = let n : false ≡ true = sub 0 refl in absurd cc
fewer_by_one (false ∷ a) (true ∷ b) (suc i) same sub m never = omega (arith, fewer_by_one a b i (omega arith) (λ k h. sub (suc k) h) m never)
fewer_by_one (false ∷ a) (false ∷ b) (suc i) same sub m never = fewer_by_one a b i (omega arith) (λ k h. sub (suc k) h) m never

pub ranked : (graph : List (List ℕ)) (table : List (List Bool)) → Within graph → Table graph table → NoReturn graph → Ranked graph (rank table)
ranked graph table within each none i j c =
    let at : Reached graph i (get_or table i []) = each i c.0 in
    let to : Reached graph j (get_or table j []) = each j (within i j c) in
    fewer_by_one (get_or table j []) (get_or table i []) j (to.each ∙ sym at.each)
    (λ k h. at.all k (before c (to.only k h))) (at.all j (by_call c)) (λ m. none j (to.only j m))

-- what is reached by some calls is reached by more
pub by_more : {To From : ℕ → ℕ → Type 0} {i k : ℕ} → ((a b : ℕ) → To a b → From a b) → Reaches To i k → Reaches From i k
by_more more (by_call c) = by_call (more _ _ c)
by_more more (further r c) = further (by_more more r) (more _ _ c)
