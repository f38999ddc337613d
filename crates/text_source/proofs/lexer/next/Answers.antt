use Rattle.text_source.proofs.LexicalFronts.{next_is}
use Rattle.text_source.proofs.lexer.next.Goals as goal

pub returns : goal.returns
returns c = next_is c.args.text.now c.lexeme.result c.requires c.lexeme.ensures
