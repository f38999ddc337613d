-- The values of several expressions, one by one.
use Rattle.std.proofs.Common.{◌≡◌, ◌∙◌, refl, sym, ap, ℕ, suc, zero, length, List, [], ◌∷◌}
use Rattle.std.specs.Prelude.{slice_get, Option, Some, None, ℤ}
use Rattle.std.specs.Option.{option_map, option_and_then}
use Rattle.sem_expr.specs.declared.expr.Expr.{Expr}
use Rattle.sem_expr.specs.Values.{Assignment, val}
use Rattle.sem_filling.specs.Fits.{vals}

-- the first value and the rest
pub record Valued (a : Assignment) (e : Expr) (es : List Expr) (vs : List ℤ) : Type 0 where
  pub first : ℤ
  pub rest : List ℤ
  pub is : vs ≡ first ∷ rest
  pub first_is : val a e ≡ Some first
  pub rest_are : vals a es ≡ Some rest

pub valued : (a : Assignment) (e : Expr) (es : List Expr) (vs : List ℤ) → vals a (e ∷ es) ≡ Some vs → Valued a e es vs
valued a e es vs at = by (val a e) refl (vals a es) refl at
  where
    by : (o : Option ℤ) → val a e ≡ o → (q : Option (List ℤ)) → vals a es ≡ q → option_and_then (λ v. option_map (λ ws. v ∷ ws) q) o ≡ Some vs → Valued a e es vs
    by None first q rest is = let wrong : None ≡ Some vs = is in absurd cc
    by (Some v) first None rest is = let wrong : None ≡ Some vs = is in absurd cc
    by (Some v) first (Some ws) rest is = let both : Some (v ∷ ws) ≡ Some vs = is in record { first = v; rest = ws; is = let same : v ∷ ws ≡ vs = cc in sym same; first_is = first; rest_are = rest }

pub vals_length : (a : Assignment) (es : List Expr) (vs : List ℤ) → vals a es ≡ Some vs → length vs ≡ length es
vals_length a [] vs at = let none : [] ≡ vs = cc in sym (ap length none)
vals_length a (e ∷ es) vs at =
    let v = valued a e es vs at in
    let rest : length v.rest ≡ length es = vals_length a es v.rest v.rest_are in
    ap length v.is ∙ ap suc rest

pub vals_at : (a : Assignment) (es : List Expr) (vs : List ℤ) (q : ℕ) (w : ℤ) → vals a es ≡ Some vs → slice_get vs q ≡ Some w → (e : Expr) × (slice_get es q ≡ Some e) × (val a e ≡ Some w)
vals_at a [] vs q w at here = let none : vs ≡ [] = cc in let wrong : None ≡ Some w = sym (ap (λ xs. slice_get xs q) none) ∙ here in absurd cc
vals_at a (e ∷ es) vs zero w at here =
    let v = valued a e es vs at in
    let one : Some v.first ≡ Some w = sym (ap (λ xs. slice_get xs 0) v.is) ∙ here in
    (e, refl, v.first_is ∙ one)
vals_at a (e ∷ es) vs (suc q) w at here =
    let v = valued a e es vs at in
    vals_at a es v.rest q w v.rest_are (sym (ap (λ xs. slice_get xs (suc q)) v.is) ∙ here)

-- expressions with the same values each have the same values together
pub vals_same : (a b : Assignment) (es : List Expr) → ((n : ℕ) (e : Expr) → slice_get es n ≡ Some e → val a e ≡ val b e) → vals a es ≡ vals b es
vals_same a b [] same = refl
vals_same a b (e ∷ es) same = λ i. option_and_then (λ v. option_map (λ ws. v ∷ ws) (vals_same a b es (λ n x at. same (suc n) x at) i)) (same 0 e refl i)
