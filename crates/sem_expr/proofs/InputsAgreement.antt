-- A value depends on the inputs alone.
use Rattle.std.proofs.Common.{◌≡◌, refl, ap, ◌∙◌, zero-add, ℕ, zero, suc, ◌+◌, not, ◌&&◌, ◌||◌, List, [], ◌∷◌, ◌++◌, length, Some, arith}
use Rattle.std.specs.Prelude.{slice_get}
use Rattle.std.specs.Option.{option_map}
use Rattle.std.proofs.Math.Nat.{suc-add}
use Rattle.std.proofs.lemmas.Option.{slice_get_within}
use Rattle.sem_expr.specs.declared.expr.Expr.{Expr}
use Rattle.sem_expr.specs.declared.expr.Expr.TheVariants as expr
use Rattle.sem_expr.specs.declared.expr.Expr.TheVariants.{Number, Parameter, Binary'}
use Rattle.sem_expr.specs.declared.expr.Cond.{Cond}
use Rattle.sem_expr.specs.declared.expr.Cond.TheVariants.{Constant, Compare, Not', And', Or'}
use Rattle.sem_expr.specs.declared.inputs.Input.{Input}
use Rattle.sem_expr.specs.declared.inputs.Input.TheVariants as input
use Rattle.sem_expr.specs.Values.{Assignment, val, truth, both, apply, compare}
use Rattle.sem_expr.specs.Inputs.{inputs_of, condition_inputs_of, Agree}

first_of_both : (xs ys : List Input) (k : ℕ) (i : Input) → slice_get xs k ≡ Some i → slice_get (xs ++ ys) k ≡ Some i
first_of_both [] ys k i h = absurd (omega (arith, slice_get_within [] k i h))
first_of_both (x ∷ xs) ys zero i h = h
first_of_both (x ∷ xs) ys (suc k) i h = first_of_both xs ys k i h

second_of_both : (xs ys : List Input) (k : ℕ) → slice_get (xs ++ ys) (length xs + k) ≡ slice_get ys k
second_of_both [] ys k = ap (slice_get ys) (zero-add k)
second_of_both (x ∷ xs) ys k = ap (slice_get (x ∷ (xs ++ ys))) (suc-add (length xs) k) ∙ second_of_both xs ys k

module _ (a b : Assignment) where
  agree_first : (xs ys : List Input) → Agree a b (xs ++ ys) → Agree a b xs
  agree_first xs ys h k i e = h k i (first_of_both xs ys k i e)

  agree_second : (xs ys : List Input) → Agree a b (xs ++ ys) → Agree a b ys
  agree_second xs ys h k i e = h (length xs + k) i (rw second_of_both e)

  pub same_value : (e : Expr) → Agree a b (inputs_of e) → val a e ≡ val b e
  same_value (Number s n) h = refl
  same_value (Parameter s k) h = h 0 (input.Parameter k) refl
  same_value (expr.Attribute s t) h = h 0 (input.Attribute t) refl
  same_value (Binary' s op p x q y) h =
      let f = same_value x (agree_first (inputs_of x) (inputs_of y) h) in
      let g = same_value y (agree_second (inputs_of x) (inputs_of y) h) in
      λ t. both (apply op) (f t) (g t)

  pub same_truth : (c : Cond) → Agree a b (condition_inputs_of c) → truth a c ≡ truth b c
  same_truth (Constant s v) h = refl
  same_truth (Compare s op x y) h =
      let f = same_value x (agree_first (inputs_of x) (inputs_of y) h) in
      let g = same_value y (agree_second (inputs_of x) (inputs_of y) h) in
      λ t. both (λ v w. Some (compare op v w)) (f t) (g t)
  same_truth (Not' s p x) h = ap (option_map not) (same_truth x h)
  same_truth (And' s p x q y) h =
      let f = same_truth x (agree_first (condition_inputs_of x) (condition_inputs_of y) h) in
      let g = same_truth y (agree_second (condition_inputs_of x) (condition_inputs_of y) h) in
      λ t. both (λ v w. Some (v && w)) (f t) (g t)
  same_truth (Or' s p x q y) h =
      let f = same_truth x (agree_first (condition_inputs_of x) (condition_inputs_of y) h) in
      let g = same_truth y (agree_second (condition_inputs_of x) (condition_inputs_of y) h) in
      λ t. both (λ v w. Some (v || w)) (f t) (g t)
