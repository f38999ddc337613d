use Rattle.std.proofs.Common.{◌+◌, ◌/◌, ◌^◌, arith}
use Rattle.sem_bits.proofs.NumberWindows.{low_shifted}
use Rattle.sem_bits.proofs.word.part.Goals as goal

pub returns : goal.returns
returns c = low_shifted (c.args.word / 2 ^ c.args.after) c.args.count (omega (arith, c.if-count-eq0.false)) (omega arith)
