use Rattle.std.proofs.Common.{◌-◌, arith}
use Rattle.std.proofs.lemmas.Nat.{shl_whole}
use Rattle.sem_bits.proofs.word.at_front.Goals as goal

pub returns-else-count-eq0 : goal.returns-else-count-eq0
returns-else-count-eq0 c = shl_whole c.args.word c.args.count (64 - c.args.count) 64 c.requires.below (omega (arith, c.requires.most))
