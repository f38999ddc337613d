use Rattle.std.proofs.Common.{arith}
use Rattle.sem_bits.proofs.NumberWindows.{low_masked, low_whole}
use Rattle.sem_bits.proofs.word.low_bits.Goals as goal

pub returns-then-count-eq64 : goal.returns-then-count-eq64
returns-then-count-eq64 c = low_whole c.args.word c.args.count (omega arith) (omega arith)

pub returns-else-count-eq64 : goal.returns-else-count-eq64
returns-else-count-eq64 c = low_masked c.args.word c.args.count (omega arith)
