use Rattle.std.proofs.Common.{◌≡◌, length}
use Rattle.text_source.specs.declared.token.Mark.TheVariants as m
use Rattle.text_tree.specs.Rules.{all}
use Rattle.text_tree.specs.File.{many, before, statement, statements}
use Rattle.text_tree.proofs.statement.statements.Given as goal

abbrev pub invariant-more : goal.invariant-more
invariant-more l = many (before m.CloseBrace) (λ found. statement all l.only_bound (length found)) l.found l.tokens ≡ statements all l.fn.only_bound l.fn.tokens

abbrev pub decreases-more : goal.decreases-more
decreases-more l = length l.tokens
