use Rattle.std.proofs.Common.{arith}
use Rattle.text_source.proofs.LexicalClasses.{word_class}
use Rattle.text_source.proofs.lexer.is_word.Goals as goal

pub returns : goal.returns
returns c = rw c.class_of.ensures (word_class c.args.c (omega arith))
