-- Weights depend on those of what is called, and stay below their bound.
use Rattle.std.proofs.Common.{◌≡◌, ℕ, ◌<◌, ◌≤◌, ◌+◌, List, [], ◌∷◌, Option, Some, None, suc, zero, length, get_or, slice_get, slice_set, replicate, min, arith, refl, ap, sym, ◌∙◌, subst}
use Rattle.std.specs.List.{sum_by}
use Rattle.std.proofs.lemmas.List.Sums.{sum_by-cons}
use Rattle.std.proofs.lemmas.Grind.{common_steps}
use Rattle.sem_graph.specs.Order.{IsOrder}
use Rattle.sem_graph.specs.Measures.{number_at, greatest_by, field_weight, format_weight, weight_by, weight_cap, FieldCalls, AreWeights}
use Rattle.sem_graph.proofs.MeasuresFilling.{IsLocal, Filled, filled_more, filled_all, filled_none}

pub greatest_same : {X : Type 0} (f g : X → ℕ) (xs : List X) → ((k : ℕ) (x : X) → slice_get xs k ≡ Some x → f x ≡ g x) → greatest_by f xs ≡ greatest_by g xs
greatest_same f g [] same = refl
greatest_same f g (x ∷ xs) same = rw (same 0 x refl, greatest_same f g xs (λ k y at. same (suc k) y at)) refl

pub sum_same : {X : Type 0} (f g : X → ℕ) (xs : List X) → ((k : ℕ) (x : X) → slice_get xs k ≡ Some x → f x ≡ g x) → sum_by f xs ≡ sum_by g xs
sum_same f g [] same = refl
sum_same f g (x ∷ xs) same = sum_by-cons f x xs ∙ (ap (λ n. n + sum_by f xs) (same 0 x refl) ∙ (ap (λ n. g x + n) (sum_same f g xs (λ k y at. same (suc k) y at)) ∙ sym (sum_by-cons g x xs)))

pub greatest_most : {X : Type 0} (f : X → ℕ) (xs : List X) (most : ℕ) → ((x : X) → f x ≤ most) → greatest_by f xs ≤ most
greatest_most f [] most each = omega arith
greatest_most f (x ∷ xs) most each = let here = each x in let rest = greatest_most f xs most each in omega arith

field_same : (xs ys : List ℕ) (callee : Option ℕ) → ((j : ℕ) → callee ≡ Some j → number_at xs j ≡ number_at ys j) → field_weight xs callee ≡ field_weight ys callee
field_same xs ys None same = refl
field_same xs ys (Some j) same = ap (λ n. n + 1) (same j refl)

pub weight_is_local : (methods : List (List (List (Option ℕ)))) → IsLocal (FieldCalls methods) (weight_by methods)
weight_is_local methods xs ys i same =
    greatest_same (format_weight xs) (format_weight ys) (get_or methods i []) (λ f fields fields_at.
    ap (min weight_cap) (sum_same (field_weight xs) (field_weight ys) fields (λ k callee at.
    field_same xs ys callee (λ j is. same j (record { format = f; field = k; fields = fields; formats_at = fields_at; at = at ∙ ap Some is })))))

pub none_greater : (values : List ℕ) (m v most j : ℕ) → m < length values → v ≤ most → ((j : ℕ) → number_at values j ≤ most) → number_at (slice_set values m v) j ≤ most
none_greater [] m v most j lt most_is each = absurd (omega arith)
none_greater (x ∷ values) zero v most zero lt most_is each = most_is
none_greater (x ∷ values) zero v most (suc j) lt most_is each = each (suc j)
none_greater (x ∷ values) (suc m) v most zero lt most_is each = each 0
none_greater (x ∷ values) (suc m) v most (suc j) lt most_is each = none_greater values m v most j (omega arith) most_is (λ j. each (suc j))

pub weight_most : (methods : List (List (List (Option ℕ)))) (weights : List ℕ) (i : ℕ) → weight_by methods weights i ≤ weight_cap
weight_most methods weights i = greatest_most (format_weight weights) (get_or methods i []) weight_cap (λ fields. omega arith)

pub read_at : (order : List ℕ) (k : ℕ) → k < length order → slice_get order k ≡ Some (get_or order k 0)
read_at [] k lt = absurd (omega arith)
read_at (x ∷ order) zero lt = refl
read_at (x ∷ order) (suc k) lt = read_at order k (omega arith)

pub read_row : {X : Type 0} (rows : List (List X)) (i : ℕ) (row : List X) → i < length rows → row ≡ get_or rows i row → row ≡ get_or rows i []
read_row [] i row lt is = absurd (omega arith)
read_row (x ∷ rows) zero row lt is = is
read_row (x ∷ rows) (suc i) row lt is = read_row rows i row (omega arith) is

zeros_long : (n : ℕ) → length {A = ℕ} (replicate n 0) ≡ n
zeros_long n = grind (arith, common_steps)

zeros_at : (n j : ℕ) → number_at (replicate n 0) j ≡ 0
zeros_at n j = grind (arith, common_steps)

-- a step of the loop over the order
pub record Heavy (methods : List (List (List (Option ℕ)))) (order : List ℕ) (k : ℕ) (weights : List ℕ) : Type 0 where
  pub filled : Filled (weight_by methods) (length methods) order k weights
  pub most : (j : ℕ) → number_at weights j ≤ weight_cap

pub heavy_none : (methods : List (List (List (Option ℕ)))) (order : List ℕ) (n : ℕ) (weights : List ℕ) → n ≡ length methods → weights ≡ replicate n 0 → Heavy methods order 0 weights
heavy_none methods order n weights count is = record {
  filled = filled_none (weight_by methods) (length methods) order weights (ap length is ∙ (zeros_long n ∙ count));
  most = λ j. subst (λ values. number_at values j ≤ weight_cap) (sym is) (let zero_there = zeros_at n j in omega arith);
}

pub heavy_more : (methods : List (List (List (Option ℕ)))) (order : List ℕ) (k : ℕ) (weights : List ℕ) (formats : List (List (Option ℕ))) (weight : ℕ) → IsOrder (FieldCalls methods) (length methods) order
    → Heavy methods order k weights → k < length order → formats ≡ get_or methods (get_or order k 0) formats → weight ≡ greatest_by (format_weight weights) formats
    → Heavy methods order (k + 1) (slice_set weights (get_or order k 0) weight)
heavy_more methods order k weights formats weight ordered now lt formats_is is =
    let here = read_at order k lt in
    let below = ordered.only k (get_or order k 0) here in
    let there = read_row methods (get_or order k 0) formats below formats_is in
    let long = now.filled.each in
    let most : weight ≤ weight_cap = subst (λ w. w ≤ weight_cap) (sym (is ∙ ap (greatest_by (format_weight weights)) there)) (weight_most methods weights (get_or order k 0)) in
    record {
      filled = filled_more (weight_by methods) (length methods) order k weights (get_or order k 0) weight ordered (weight_is_local methods) now.filled here (is ∙ ap (greatest_by (format_weight weights)) there);
      most = λ j. none_greater weights (get_or order k 0) weight weight_cap j (omega arith) most now.most;
    }

pub heavy_all : (methods : List (List (List (Option ℕ)))) (order : List ℕ) (k : ℕ) (weights : List ℕ) → IsOrder (FieldCalls methods) (length methods) order → length order ≤ k → Heavy methods order k weights
    → AreWeights methods weights
heavy_all methods order k weights ordered past now = record { each = now.filled.each; rule = filled_all (weight_by methods) (length methods) order k weights ordered past now.filled }

pub weight_is : (weight : ℕ) (read weights : List ℕ) (formats_read formats : List (List (Option ℕ))) → weight ≡ greatest_by (format_weight read) formats_read → read ≡ weights → formats_read ≡ formats
    → weight ≡ greatest_by (format_weight weights) formats
weight_is weight read weights formats_read formats is same same_formats = is ∙ (ap (λ values. greatest_by (format_weight values) formats_read) same ∙ ap (greatest_by (format_weight weights)) same_formats)
