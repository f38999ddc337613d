-- Places of expressions.
use Rattle.text_source.specs.declared.span.Span.{Span}
use Rattle.text_tree.specs.declared.tree.Expr.{Expr, fold-Expr}
use Rattle.text_tree.specs.declared.tree.Expr.TheOpen.{Expr-F}

-- from the start of the one to the end of the other
abbrev pub cover : Span → Span → Span
cover a b = record { from = a.from; to = b.to }

abbrev pub span_step : Expr-F Span → Span
span_step (Expr-F.Number at n) = at
span_step (Expr-F.Negative at n) = at
span_step (Expr-F.Truth at b) = at
span_step (Expr-F.Name at) = at
span_step (Expr-F.Attribute at owner which) = at
span_step (Expr-F.Group at x) = at
span_step (Expr-F.Not at x) = at
span_step (Expr-F.Binary at operator sign x y) = at

-- the place of the whole expression
abbrev pub span_of : Expr → Span
span_of = fold-Expr Span span_step
