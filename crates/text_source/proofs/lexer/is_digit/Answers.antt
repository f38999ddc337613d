use Rattle.std.proofs.Common.{arith}
use Rattle.text_source.proofs.LexicalClasses.{digit_class}
use Rattle.text_source.proofs.lexer.is_digit.Goals as goal

pub returns : goal.returns
returns c = rw c.class_of.ensures (digit_class c.args.c (omega arith))
