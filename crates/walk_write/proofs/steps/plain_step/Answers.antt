use Rattle.std.proofs.Common.{drop}
use Rattle.walk_write.proofs.WalkingPassing.{is_ready, plain_goes, plain_fails}
use Rattle.walk_write.proofs.steps.plain_step.Goals as goal

pub learn_step-requires-clause-ready : goal.learn_step-requires-clause-ready
learn_step-requires-clause-ready c =
    let w = c.requires.goes in
    is_ready c.args.accepted.now c.args.level_frame.now (drop c.args.source.now.from c.args.source.now.cursor.now.left) c.args.source.now.asked.now w.serves c.args.step w.later w.number c.args.digits c.args.level.now w.going

pub returns-in-Err-clause-fault : goal.returns-in-Err-clause-fault
returns-in-Err-clause-fault c =
    plain_fails c.args.accepted.now c.args.level_frame.now (drop c.args.source.now.from c.args.source.now.cursor.now.left) c.args.source.now.asked.now c.requires.goes.serves c.in-Err.fault c.args.step c.args.digits c.args.level.now c.in-Err.ensures.fault
    c.alike-alike.result c.alike-alike.ensures.count c.alike-alike.ensures.share c.fault_of.result c.fault_of.ensures

pub returns-clause-on : goal.returns-clause-on
returns-clause-on c =
    plain_goes c.args.accepted.now c.args.level_frame.now (drop c.args.source.now.from c.args.source.now.cursor.now.left) c.args.source.now.asked.now c.requires.goes.serves c.args.step c.requires.plain c.args.digits c.args.level.now c.learn_step.new.level
    c.in_default.ensures.learns c.keeps.ensures
