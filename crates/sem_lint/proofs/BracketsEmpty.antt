-- A bracket of which no expression is ever a length that its side may have.
use Rattle.std.proofs.Common.{◌≡◌, ◌∙◌, refl, ℕ, suc, zero, Bool, true, List, [], ◌∷◌, ◌||◌}
use Rattle.std.specs.Prelude.{ℤ, Option, Some, None, Ok, slice_get}
use Rattle.std.proofs.lemmas.Bool.{and_parts}
use Rattle.text_source.specs.declared.span.Span.{Span}
use Rattle.sem_expr.specs.declared.expr.Comparison.TheVariants.{Equal}
use Rattle.sem_expr.specs.declared.expr.Expr.{Expr}
use Rattle.sem_expr.specs.declared.interval.Interval.{Interval}
use Rattle.sem_expr.specs.Ranged.{Bounding, ranged}
use Rattle.sem_expr.specs.Rules.{IsIn}
use Rattle.sem_expr.specs.Spread.{LieIn}
use Rattle.sem_expr.specs.Values.{Assignment, val}
use Rattle.sem_lint.specs.Never.{are_apart, are_none_of, is_none_of, is_there}
use Rattle.sem_lint.specs.Undefined.{undefined}
use Rattle.sem_lint.proofs.DemandsUnmet.{none_of_these}
use Rattle.sem_lint.proofs.UndefinedValueless as undefined

there_or : (o : Option Span) (b : Bool) → (is_there o || b) ≡ true → ((at : Span) → o ≡ Some at → ⊥) → (b ≡ true → ⊥) → ⊥
there_or (Some at) b e one other = one at refl
there_or None b e one other = other e

module _ (a : Assignment) (r : Bounding) (lie : LieIn a r) where
  none_is : (due : Interval) (e : Expr) → is_none_of r due e ≡ true → (v : ℤ) → val a e ≡ Some v → IsIn due v → ⊥
  none_is due e is v value within =
      there_or (undefined r e) (are_apart Equal (ranged r e) (Ok due)) is (λ at here. undefined.no_value a r lie e at here v value) (λ here. none_of_these a r lie e due here v value within)

  pub none_in_bracket : (due : Interval) (es : List Expr) → are_none_of r due es ≡ true → (q : ℕ) (e : Expr) → slice_get es q ≡ Some e → (v : ℤ) → val a e ≡ Some v → IsIn due v → ⊥
  none_in_bracket due [] is q e at v value within = absurd (cc)
  none_in_bracket due (d ∷ es) is zero e at v value within =
      let t = and_parts (is_none_of r due d) (are_none_of r due es) is in
      let same : e ≡ d = cc in
      none_is due e ((λ j. is_none_of r due (same j)) ∙ t.0) v value within
  none_in_bracket due (d ∷ es) is (suc q) e at v value within = none_in_bracket due es (and_parts (is_none_of r due d) (are_none_of r due es) is).1 q e at v value within
