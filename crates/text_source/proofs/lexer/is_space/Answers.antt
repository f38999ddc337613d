use Rattle.std.proofs.Common.{arith}
use Rattle.text_source.proofs.LexicalClasses.{space_class}
use Rattle.text_source.proofs.lexer.is_space.Goals as goal

pub returns : goal.returns
returns c = rw c.class_of.ensures (space_class c.args.c (omega arith))
