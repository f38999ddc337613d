-- What a library method with expressions as its arguments says of the sides of a field.
use Rattle.std.specs.Prelude.{◌≡◌, ◌≤◌, Bool, List, length, ℤ, pos, Some}
use Rattle.sem_expr.specs.Values.{Assignment, val}
use Rattle.sem_expr.specs.declared.expr.Expr.{Expr}
use Rattle.sem_library.specs.Methods.{Spells}

-- the bits are as many as the one expression says, at most 64, and spell the value of the other
pub record HasSpelling (a : Assignment) (len v : Expr) (bits : List Bool) : Type 0 where
  pub count : ℤ
  pub count_is : val a len ≡ Some count
  pub number : ℤ
  pub number_is : val a v ≡ Some number
  pub spells : Spells count number bits

-- both sides are the same bits, as many as the expression says, at most 64
pub record IsCarried (a : Assignment) (len : Expr) (u c : List Bool) : Type 0 where
  pub count : ℤ
  pub count_is : val a len ≡ Some count
  pub related : (u ≡ c) × (pos (length u) ≡ count) × (length u ≤ 64)
