-- The values of sums, differences and products of literals, as far as 64 bits hold them.
use Rattle.std.specs.Prelude.{◌≡◌, ◌^◌, ℤ, pos, neg_ℤ, ◌+ℤ◌, ◌≤ℤ◌}
use Rattle.text_source.specs.declared.span.Span.{Span}
use Rattle.sem_expr.specs.declared.expr.Expr.{Expr}
use Rattle.sem_expr.specs.declared.expr.Operator.{Operator}
use Rattle.sem_expr.specs.Bounds.{anything, bounding_of}
use Rattle.sem_expr.specs.Known.{assignment_of, nothing_known}
use Rattle.sem_expr.specs.Ranged.{joined, both_ranged, ranged}
use Rattle.sem_expr.specs.Values.{apply, both, val}
use Rattle.sem_profile.specs.Constants.{IsExact}

-- a number of 64 bits that is this one
pub record IsNumber (z v : ℤ) : Type 0 where
  pub same : v ≡ z
  pub low : neg_ℤ (pos (2 ^ 63)) ≤ℤ v
  pub high : v ≤ℤ pos (2 ^ 63)

-- the value of the expression
pub record IsSmall (e : Expr) (v : ℤ) : Type 0 where
  pub exact : IsExact e v
  pub number : IsNumber v v

-- the sum of that value and n
pub record IsMore (e : Expr) (n v : ℤ) : Type 0 where
  pub part : ℤ
  pub exact : IsExact e part
  pub number : IsNumber (part +ℤ n) v

-- the expression has these operands
pub record HasOperands (op : Operator) (e x y : Expr) : Type 0 where
  pub at : Span
  pub value_is : val (assignment_of nothing_known) e ≡ both (apply op) (val (assignment_of nothing_known) x) (val (assignment_of nothing_known) y)
  pub range_is : ranged (bounding_of anything) e ≡ both_ranged (joined at op) (ranged (bounding_of anything) x) (ranged (bounding_of anything) y)

-- what is k more than the left operand is n more than the whole
pub record TakesOn (op : Operator) (n : ℤ) (y : Expr) (k : ℤ) : Type 0 where
  pub on : (e x : Expr) (v : ℤ) → HasOperands op e x y → IsMore x k v → IsMore e n v
