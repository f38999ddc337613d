use Rattle.std.proofs.Common.{refl}
use Rattle.sem_bits.specs.Number.{num}
use Rattle.sem_bits.proofs.Numbers.{num-push}
use Rattle.sem_bits.proofs.laws.number_of_one_more.Goals as goal

pub returns : goal.returns
unfolding num
returns c = record { empty = refl; push = num-push }
