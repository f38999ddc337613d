-- The conjuncts of a condition (docs/NOTATION.md): the operands of the `&&` at its top, in their order. What is in round brackets is one.
use Rattle.std.specs.Prelude.{◌≡◌, Bool, true, false, List, [], ◌∷◌, ◌++◌}
use Rattle.text_source.specs.declared.span.Span.{Span}
use Rattle.text_tree.specs.declared.tree.Expr.{Expr as Tree, fold-Expr}
use Rattle.text_tree.specs.declared.tree.Expr.TheOpen.{Expr-F}
use Rattle.text_tree.specs.declared.tree.Expr.TheVariants as t
use Rattle.text_tree.specs.declared.tree.Operator.TheVariants.{And}
use Rattle.text_tree.specs.Spans.{span_of}
use Rattle.sem_expr.specs.declared.expr.Cond.{Cond}
use Rattle.sem_profile.specs.declared.profile.Constraint.{Constraint}
use Rattle.sem_profile.specs.declared.profile.Constraint.TheVariants.{Enforce}
use Rattle.text_statements.specs.declared.term.Term.TheVariants.{Truth}
use Rattle.text_statements.specs.Names.{Names}
use Rattle.text_statements.specs.Means.{Means}

abbrev pub conjunction_step : Expr-F Bool → Bool
conjunction_step (Expr-F.Binary at And sign x y) = true
conjunction_step _ = false

-- `&&` is at the top
abbrev pub is_conjunction : Tree → Bool
is_conjunction = fold-Expr Bool conjunction_step

-- each conjunct has its meaning, and the place of its part with round brackets around it
pub data AreConjuncts (s : Names) : Tree → List Constraint → Type 0 where
  both : {at sign : Span} {x y : Tree} {left right : List Constraint} → AreConjuncts s x left → AreConjuncts s y right
      → AreConjuncts s (t.Binary at And sign x y) (left ++ right)
  single : {part : Tree} {c : Cond} {place : Span} → is_conjunction part ≡ false → Means s part (Truth c) → place ≡ span_of part
      → AreConjuncts s part (Enforce c place ∷ [])
