use Rattle.std.proofs.Common.{arith}
use Rattle.text_source.proofs.LexicalClasses.{letter_class}
use Rattle.text_source.proofs.lexer.is_letter.Goals as goal

pub returns : goal.returns
returns c = rw c.class_of.ensures (letter_class c.args.c (omega arith))
