use Rattle.sem_bits.proofs.Texts.{one_reading}
use Rattle.sem_bits.proofs.laws.one_reading.Goals as goal

pub returns : goal.returns
returns c = one_reading
