use Rattle.std.proofs.Common.{length}
use Rattle.text_source.proofs.LexicalUnique.{unique}
use Rattle.text_source.proofs.laws.one_reading.Goals as goal

pub returns : goal.returns
returns c = λ text a b g h. unique (length text) text a b g h
