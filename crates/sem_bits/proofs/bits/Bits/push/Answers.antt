use Rattle.sem_bits.proofs.Words.{one_bit}
use Rattle.sem_bits.proofs.bits.Bits.push.Goals as goal

pub returns-clause-ok : goal.returns-clause-ok
returns-clause-ok c = let one = one_bit c.args.bit c.from.result c.from.ensures in rw one.1 at c.append.ensures.ok

pub returns-clause-full : goal.returns-clause-full
returns-clause-full c = let one = one_bit c.args.bit c.from.result c.from.ensures in rw one.1 at c.append.ensures.full
