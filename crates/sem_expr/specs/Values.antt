-- The value of an expression over unbounded whole numbers (RFC 4997, section 4.7; docs/NOTATION.md, Expressions).
use Rattle.std.specs.Prelude.{ℕ, zero, suc, ◌/◌, ◌+ℤ◌, ◌-ℤ◌, ◌*ℤ◌, neg_ℤ, int_lt, int_le, Bool, not, ◌&&◌, ◌||◌, ℤ, pos, negsuc, Option, Some, None}
use Rattle.std.specs.Option.{option_map}
use Rattle.std.specs.Int.{int_pow}
use Rattle.std.specs.Ordering.{int_eq}
use Rattle.sem_expr.specs.declared.expr.Attribute.{Attribute}
use Rattle.sem_expr.specs.declared.expr.Operator.{Operator}
use Rattle.sem_expr.specs.declared.expr.Operator.TheVariants.{Add, Subtract, Multiply, Divide, Remainder, Power}
use Rattle.sem_expr.specs.declared.expr.Comparison.{Comparison}
use Rattle.sem_expr.specs.declared.expr.Comparison.TheVariants.{Equal, NotEqual, Less, Greater, AtMost, AtLeast}
use Rattle.sem_expr.specs.declared.expr.Expr.{Expr}
use Rattle.sem_expr.specs.declared.expr.Expr.TheVariants as expr
use Rattle.sem_expr.specs.declared.expr.Expr.TheVariants.{Number, Parameter, Binary'}
use Rattle.sem_expr.specs.declared.expr.Cond.{Cond}
use Rattle.sem_expr.specs.declared.expr.Cond.TheVariants.{Constant, Compare, Not', And', Or'}

-- a number for each attribute and parameter that has one
pub record Assignment : Type 0 where
  pub attribute : Attribute → Option ℤ
  pub parameter : ℕ → Option ℤ

-- the quotient by a natural above 0, rounded towards minus infinity: -(a + 1) / d is -(a / d + 1)
abbrev pub floor_by : ℕ → ℤ → ℤ
floor_by d (pos a) = pos (a / d)
floor_by d (negsuc a) = negsuc (a / d)

-- none by 0; x / (-y) is (-x) / y
abbrev pub quotient : ℤ → ℤ → Option ℤ
quotient x (pos zero) = None
quotient x (pos (suc d)) = Some (floor_by (suc d) x)
quotient x (negsuc d) = Some (floor_by (suc d) (neg_ℤ x))

-- x - y * (x / y)
abbrev pub remainder : ℤ → ℤ → Option ℤ
remainder x y = option_map (λ q. x -ℤ (y *ℤ q)) (quotient x y)

-- none at a negative exponent; 0 ^ 0 is 1
abbrev pub power : ℤ → ℤ → Option ℤ
power x (pos n) = Some (int_pow x n)
power x (negsuc n) = None

abbrev pub apply : Operator → ℤ → ℤ → Option ℤ
apply Add x y = Some (x +ℤ y)
apply Subtract x y = Some (x -ℤ y)
apply Multiply x y = Some (x *ℤ y)
apply Divide x y = quotient x y
apply Remainder x y = remainder x y
apply Power x y = power x y

-- what f makes of two values, where both are there
abbrev pub both : {A B : Type 0} → (A → A → Option B) → Option A → Option A → Option B
both f None y = None
both f (Some x) None = None
both f (Some x) (Some y) = f x y

-- the value, where there is one: none where a part has none
abbrev pub val : Assignment → Expr → Option ℤ
val a (Number s n) = Some n
val a (Parameter s i) = a.parameter i
val a (expr.Attribute s t) = a.attribute t
val a (Binary' s op p x q y) = both (apply op) (val a x) (val a y)

abbrev pub compare : Comparison → ℤ → ℤ → Bool
compare Equal x y = int_eq x y
compare NotEqual x y = not (int_eq x y)
compare Less x y = int_lt x y
compare Greater x y = int_lt y x
compare AtMost x y = int_le x y
compare AtLeast x y = int_le y x

-- the value of a condition, where there is one: none where a part has none, also under `&&` and `||`
abbrev pub truth : Assignment → Cond → Option Bool
truth a (Constant s b) = Some b
truth a (Compare s op x y) = both (λ v w. Some (compare op v w)) (val a x) (val a y)
truth a (Not' s p x) = option_map not (truth a x)
truth a (And' s p x q y) = both (λ v w. Some (v && w)) (truth a x) (truth a y)
truth a (Or' s p x q y) = both (λ v w. Some (v || w)) (truth a x) (truth a y)
