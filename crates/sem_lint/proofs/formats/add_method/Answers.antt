use Rattle.std.proofs.Common.{arith}
use Rattle.sem_lint.proofs.Listed.{next_format, next_method}
use Rattle.sem_lint.proofs.formats.add_method.Goals as goal

pub loop-format-preserved : goal.loop-format-preserved
loop-format-preserved c = λ so.
    next_format c.args.judged.now c.args.index c.args.method.now c.requires c.loop-format.format c.loop-format.found c.add_format.new.found (let lt = c.loop-format-test.true in let end = c.len-format-end.ensures in omega arith) c.in_ok-add_format.ensures (c.loop-format.invariant so)

pub returns : goal.returns
returns c = λ so.
    next_method c.args.judged.now c.args.index c.args.method.now c.requires c.loop-format.format c.loop-format.found (let past = c.loop-format-test.false in let end = c.len-format-end.ensures in omega arith) (c.loop-format.invariant so)
