use Rattle.std.proofs.Common.{sym}
use Rattle.sem_bits.proofs.Numbers.{num-nil}
use Rattle.sem_bits.proofs.long.wide_word_of.Goals as goal

pub loop-octet-init : goal.loop-octet-init
loop-octet-init c = sym num-nil
