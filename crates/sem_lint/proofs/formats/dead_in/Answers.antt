use Rattle.std.proofs.Common.{ap, length, arith}
use Rattle.sem_lint.proofs.Listed.{all_listed}
use Rattle.sem_lint.proofs.formats.dead_in.Goals as goal

pub returns : goal.returns
returns c = all_listed c.args.judged.now c.loop-index.index c.loop-index.found (let past = c.loop-index-test.false in let same = ap length c.requires in omega arith) c.loop-index.invariant
