use Rattle.std.proofs.Common.{length}
use Rattle.text_source.proofs.LexicalFronts.{Front}
use Rattle.text_source.proofs.lexer.tokens_of.Given as goal

abbrev pub invariant-lex : goal.invariant-lex
invariant-lex l = Front l.text l.rest l.tokens.items

abbrev pub decreases-lex : goal.decreases-lex
decreases-lex l = length l.rest
