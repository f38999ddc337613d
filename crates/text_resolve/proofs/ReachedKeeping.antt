-- The methods that are kept, by the marks of what the top reaches.
use Rattle.std.proofs.Common.{◌≡◌, ◌∙◌, ap, ℕ, suc, zero, ◌<◌, ◌+◌, inl, inr, Bool, true, false, cond, List, [], ◌∷◌, refl, sym, subst, length, slice_set, arith}
use Rattle.std.specs.Prelude.{slice_get, Some, None}
use Rattle.std.proofs.lemmas.List.{length-map}
use Rattle.sem_profile.specs.declared.profile.Method.{Method}
use Rattle.sem_graph.specs.Calls.{Reached, Within}
use Rattle.sem_graph.proofs.Marking.{set_keeps, set_sets, set_only}
use Rattle.sem_graph.proofs.OrderPushing.{some_is}
use Rattle.sem_profile.specs.Uses.{Uses, used_methods, used_graph, IsReached, without_formats, AreReached}
use Rattle.text_resolve.specs.Reached.{is_marked_at, marked_from}
use Rattle.text_resolve.proofs.CallsUsing.{calls_are_uses, uses_are_calls, reaches_as}

pub used_within : (methods : List Method) → ((i j : ℕ) → Uses methods i j → j < length methods) → Within (used_graph methods)
used_within methods within i j calls = subst (λ n. j < n) (sym (length-map methods used_methods)) (within i j (calls_are_uses methods i j calls))

kept_long : (marks : List Bool) (k : ℕ) (ms : List Method) → length (marked_from marks k ms) ≡ length ms
kept_long marks k [] = refl
kept_long marks k (m ∷ ms) = ap suc (kept_long marks (suc k) ms)

marked_at : (marks : List Bool) (k : ℕ) (ms : List Method) (i : ℕ) (m : Method) (b : Bool) → slice_get ms i ≡ Some m → is_marked_at marks (i + k) ≡ b → slice_get (marked_from marks k ms) i ≡ Some (cond b m (without_formats m))
marked_at marks k [] i m b at is = let wrong : None ≡ Some m = at in absurd cc
marked_at marks k (x ∷ ms) zero m b at is =
    let same : x ≡ m = some_is at in
    let here : is_marked_at marks k ≡ b = subst (λ n. is_marked_at marks n ≡ b) (let z : 0 + k ≡ k = omega arith in z) is in
    ap (λ t. Some (cond t x (without_formats x))) here ∙ ap (λ y. Some (cond b y (without_formats y))) same
marked_at marks k (x ∷ ms) (suc i) m b at is =
    marked_at marks (suc k) ms i m b at (subst (λ n. is_marked_at marks n ≡ b) (let n : suc i + k ≡ i + suc k = omega arith in n) is)

pub reached_are_kept : (methods : List Method) (top : ℕ) (marks : List Bool) (kept : List Method) → top < length methods → Reached (used_graph methods) top marks
    → kept ≡ marked_from (slice_set marks top true) 0 methods → AreReached methods top kept
reached_are_kept methods top marks kept top_within reached is = record {
  each = ap length is ∙ kept_long all 0 methods;
  reached = λ k m at way. ap (λ ms. slice_get ms k) is ∙ marked_at all 0 methods k m true at (from_start k true (marked k way));
  unreached = λ k m at none. ap (λ ms. slice_get ms k) is ∙ marked_at all 0 methods k m false at (from_start k false (unmarked k none (is_marked_at all k) refl));
}
  where
    all : List Bool
    all = slice_set marks top true

    inside : top < length marks
    inside = omega (arith, top_within, reached.each, length-map methods used_methods)

    from_start : (k : ℕ) (b : Bool) → is_marked_at all k ≡ b → is_marked_at all (k + 0) ≡ b
    from_start k b h = subst (λ n. is_marked_at all n ≡ b) (let z : k ≡ k + 0 = omega arith in z) h

    marked : (k : ℕ) → IsReached methods top k → is_marked_at all k ≡ true
    marked k (inl same) = subst (λ n. is_marked_at all n ≡ true) (sym same) (set_sets marks top inside)
    marked k (inr way) = set_keeps marks top k inside (reached.all k (reaches_as (uses_are_calls methods) way))

    unmarked : (k : ℕ) → (IsReached methods top k → ⊥) → (b : Bool) → is_marked_at all k ≡ b → is_marked_at all k ≡ false
    unmarked k none false is = is
    unmarked k none true is = absurd (none (elim (set_only marks top k inside is) as (λ _. IsReached methods top k) [
      | inl mark ↦ inr (reaches_as (calls_are_uses methods) (reached.only k mark))
      | inr same ↦ inl same
    ]))
