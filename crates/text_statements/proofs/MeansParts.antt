-- The meanings of parts in round brackets.
use Rattle.std.proofs.Common.{IfOk, Result, Ok, Err}
use Rattle.text_source.specs.declared.span.Span.{Span}
use Rattle.text_tree.specs.declared.tree.Expr.{Expr as Tree}
use Rattle.text_tree.specs.declared.tree.Expr.TheVariants as t
use Rattle.text_statements.specs.declared.term.Term.{Term}
use Rattle.text_statements.specs.Names.{Names}
use Rattle.text_statements.specs.Means.{Means, group}

pub in_brackets : {E : Type 0} (s : Names) (at : Span) (x : Tree) (r : Result Term E) → IfOk r (λ m. Means s x m) → IfOk r (λ m. Means s (t.Group at x) m)
in_brackets s at x (Ok m) h = group h
in_brackets s at x (Err e) h = tt
