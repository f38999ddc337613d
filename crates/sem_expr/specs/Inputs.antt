-- The attributes and parameters in an expression, in the order of the text, each as often as it stands there.
use Rattle.std.specs.Prelude.{◌≡◌, ℕ, ℤ, List, [], ◌∷◌, ◌++◌, slice_get, Option, Some}
use Rattle.sem_expr.specs.declared.expr.Expr.{Expr}
use Rattle.sem_expr.specs.declared.expr.Expr.TheVariants as expr
use Rattle.sem_expr.specs.declared.expr.Expr.TheVariants.{Number, Parameter, Binary'}
use Rattle.sem_expr.specs.declared.expr.Cond.{Cond}
use Rattle.sem_expr.specs.declared.expr.Cond.TheVariants.{Constant, Compare, Not', And', Or'}
use Rattle.sem_expr.specs.declared.inputs.Input.{Input}
use Rattle.sem_expr.specs.declared.inputs.Input.TheVariants as input
use Rattle.sem_expr.specs.Values.{Assignment}

abbrev pub inputs_of : Expr → List Input
inputs_of (Number s n) = []
inputs_of (Parameter s i) = input.Parameter i ∷ []
inputs_of (expr.Attribute s t) = input.Attribute t ∷ []
inputs_of (Binary' s op p x q y) = inputs_of x ++ inputs_of y

abbrev pub condition_inputs_of : Cond → List Input
condition_inputs_of (Constant s b) = []
condition_inputs_of (Compare s op x y) = inputs_of x ++ inputs_of y
condition_inputs_of (Not' s p x) = condition_inputs_of x
condition_inputs_of (And' s p x q y) = condition_inputs_of x ++ condition_inputs_of y
condition_inputs_of (Or' s p x q y) = condition_inputs_of x ++ condition_inputs_of y

-- the number of an input
abbrev pub given : Assignment → Input → Option ℤ
given a (input.Attribute t) = a.attribute t
given a (input.Parameter i) = a.parameter i

-- each of the inputs has the same number, or none, by both
abbrev pub Agree : Assignment → Assignment → List Input → Type 0
Agree a b inputs = (k : ℕ) (i : Input) → slice_get inputs k ≡ Some i → given a i ≡ given b i
