use Rattle.std.specs.Prelude.{string_bytes}
use Rattle.sem_bits.proofs.Texts.{word_text}
use Rattle.sem_bits.proofs.text.print_word.Goals as goal

pub returns : goal.returns
returns c = word_text c.octets_text.result string_bytes _ c.args.count c.args.word c.octets_of-octets.ensures c.octets_text.ensures
