use Rattle.sem_bits.proofs.Texts.{one_text}
use Rattle.sem_bits.proofs.laws.one_text.Goals as goal

pub returns : goal.returns
returns c = one_text
