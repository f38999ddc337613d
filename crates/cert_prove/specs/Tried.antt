-- Equations whose test was tried and doesn't part a set.
use Rattle.std.specs.Prelude.{◌≡◌, Bool, false, List, Option, IfSome}
use Rattle.std.specs.List.{AllByRecursion}
use Rattle.cert_trees.specs.declared.equations.Equation.{Equation}

-- the test of each equation that is kept doesn't part it
abbrev pub AreTried : (Equation → Bool) → List (Option Equation) → Type 0
AreTried parts kept = AllByRecursion (λ o. IfSome o (λ e. parts e ≡ false)) kept
