use Rattle.std.proofs.Common.{arith}
use Rattle.walk_write.proofs.WalkingLearning.{blamed}
use Rattle.walk_write.proofs.WalkingTaken.{within, offset_there, short, too_few, among, learns}
use Rattle.walk_write.specs.Take.{HasBits}
use Rattle.walk_write.specs.Walking.{IsHere}
use Rattle.std.specs.Prelude.{drop}
use Rattle.walk_write.proofs.take.take.Goals as goal

pub returns-in_default-offset-clause-fault : goal.returns-in_default-offset-clause-fault
returns-in_default-offset-clause-fault c =
    λ f h. offset_there c.args.level.now c.args.field c.keeps-2.ensures c.requires.ready c.offset.result c.offset.ensures c.in_default-offset.is

pub overflow_add-source : goal.overflow_add-source
overflow_add-source c =
    omega (
      arith,
      c.if-prove.false,
      c.rest.ensures.value,
      c.rest.ensures.limit,
      short c.args.level.now c.args.field c.keeps-2.ensures c.requires.ready c.offset.result c.offset.ensures c.in-Some-offset.offset c.in-Some-offset.is,
    )

pub returns-in_default-2-clause-fault : goal.returns-in_default-2-clause-fault
returns-in_default-2-clause-fault c =
    too_few c.args.level.now c.args.field c.keeps-2.ensures c.requires.ready c.offset.result c.offset.ensures c.in-Some-offset.offset c.in-Some-offset.is
    c.length.result c.length.ensures c.in-Some.count c.in-Some.is c.args.level_frame.now c.args.source.now.cursor.now.left c.args.source.now.from c.args.source.now.asked.now c.requires.within c.in_ok-bits.field-0 c.in_ok-bits.ensures c.in_default-2.is

pub learn-requires-clause-within : goal.learn-requires-clause-within
learn-requires-clause-within c = within c.args.level.now c.args.field c.keeps-2.ensures c.requires.ready

pub returns-clause-learns : goal.returns-clause-learns
returns-clause-learns c =
    learns c.args.level.now c.args.field c.keeps-2.ensures c.requires.ready c.offset.result c.offset.ensures c.in-Some-offset.offset c.in-Some-offset.is
    c.length.result c.length.ensures c.in-Some.count c.in-Some.is c.args.level_frame.now c.args.source.now.cursor.now.left c.args.source.now.from c.args.source.now.asked.now c.requires.within c.in_ok-bits.field-0 c.in_ok-bits.ensures
    c.in-Some-2.bits c.in-Some-2.is c.learn.new.level c.learn.result c.learn.ensures.learns

pub returns-clause-fault : goal.returns-clause-fault
returns-clause-fault c =
    blamed c.learn.result (HasBits c.args.level_frame.now c.args.level.now c.args.field c.in-Some-2.bits)
    (IsHere c.args.level_frame.now c.args.level.now (drop c.args.source.now.from c.args.source.now.cursor.now.left) c.args.source.now.asked.now)
    (among c.args.level.now c.args.field c.keeps-2.ensures c.requires.ready c.offset.result c.offset.ensures c.in-Some-offset.offset c.in-Some-offset.is
    c.length.result c.length.ensures c.in-Some.count c.in-Some.is c.args.level_frame.now c.args.source.now.cursor.now.left c.args.source.now.from c.args.source.now.asked.now c.requires.within c.in_ok-bits.field-0 c.in_ok-bits.ensures
    c.in-Some-2.bits c.in-Some-2.is)
    c.learn.ensures.fault
