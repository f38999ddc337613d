use Rattle.sem_bits.proofs.Texts.{reads_back}
use Rattle.sem_bits.proofs.laws.text_reads_back.Goals as goal

pub returns : goal.returns
returns c = reads_back
