use Rattle.std.proofs.Common.{arith}
use Rattle.sem_lint.proofs.NeedsLacking.{next_format, next_method}
use Rattle.sem_lint.proofs.needs.add_method.Goals as goal

pub loop-number-preserved : goal.loop-number-preserved
loop-number-preserved c = λ so.
    next_format c.args.ground.now c.args.index c.args.method.now c.requires.method c.loop-number.number c.loop-number.found c.add_format.new.found (let lt = c.loop-number-test.true in let end = c.len-number-end.ensures in omega arith) c.in_ok-add_format.ensures (c.loop-number.invariant so)

pub returns : goal.returns
returns c = λ so.
    next_method c.args.ground.now c.args.index c.args.method.now c.requires.method c.loop-number.number c.loop-number.found (let past = c.loop-number-test.false in let end = c.len-number-end.ensures in omega arith) (c.loop-number.invariant so)
