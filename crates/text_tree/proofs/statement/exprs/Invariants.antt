use Rattle.std.proofs.Common.{◌≡◌, length}
use Rattle.text_source.specs.declared.token.Mark.TheVariants as m
use Rattle.text_tree.specs.Rules.{all}
use Rattle.text_tree.specs.Reading.{is_next}
use Rattle.text_tree.specs.File.{many, next_expr, exprs}
use Rattle.text_tree.proofs.statement.exprs.Given as goal

abbrev pub invariant-more : goal.invariant-more
invariant-more l = many (is_next m.Comma) (λ found. next_expr all (length found)) l.found l.tokens ≡ exprs all l.fn.tokens

abbrev pub decreases-more : goal.decreases-more
decreases-more l = length l.tokens
