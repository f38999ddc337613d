use Rattle.sem_bits.proofs.Numbers.{length-enc, num-enc, enc-num, num-below}
use Rattle.sem_bits.proofs.laws.one_spelling.Goals as goal

pub returns : goal.returns
returns c = record { length = length-enc; value = num-enc; only = enc-num; below = num-below }
