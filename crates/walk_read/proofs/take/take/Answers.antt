use Rattle.std.proofs.Common.{refl, sym, subst, arith}
use Rattle.std.specs.Option.{IsSome}
use Rattle.walk_read.proofs.TakeLemmas.{offset_known, placed, too_short, few_left, refuses, learns}
use Rattle.walk_read.proofs.take.take.Goals as goal

pub unwrap-offset-requires : goal.unwrap-offset-requires
unwrap-offset-requires c = subst IsSome (sym (offset_known c.args.level.now c.args.field c.offset.result c.keeps-2.ensures c.requires.ready c.offset.ensures)) refl

pub overflow_add-offset : goal.overflow_add-offset
overflow_add-offset c =
    let p =
    placed c.args.level.now c.args.field c.offset.result c.keeps-2.ensures c.requires.ready c.offset.ensures
    c.length.result c.unwrap-offset.result c.unwrap-count.result c.length.ensures c.unwrap-offset.ensures c.unwrap-count.ensures in
    omega (arith, p.few)

pub returns-then-offset-count-clause-fault : goal.returns-then-offset-count-clause-fault
returns-then-offset-count-clause-fault c =
    too_short c.args.level_frame.now c.args.level.now c.args.field c.unwrap-offset.result c.unwrap-count.result
    (placed c.args.level.now c.args.field c.offset.result c.keeps-2.ensures c.requires.ready c.offset.ensures
    c.length.result c.unwrap-offset.result c.unwrap-count.result c.length.ensures c.unwrap-offset.ensures c.unwrap-count.ensures)
    c.args.cursor.now.left c.args.from c.requires.within (omega (arith, c.rest.ensures.value))

pub returns-then-offset-count-clause-few : goal.returns-then-offset-count-clause-few
returns-then-offset-count-clause-few c =
    few_left c.args.level_frame.now c.args.level.now c.args.field c.unwrap-offset.result c.unwrap-count.result
    (placed c.args.level.now c.args.field c.offset.result c.keeps-2.ensures c.requires.ready c.offset.ensures
    c.length.result c.unwrap-offset.result c.unwrap-count.result c.length.ensures c.unwrap-offset.ensures c.unwrap-count.ensures)
    c.args.cursor.now.left c.args.from c.requires.within (omega (arith, c.rest.ensures.value))

pub bits_at-requires-clause-narrow : goal.bits_at-requires-clause-narrow
bits_at-requires-clause-narrow c =
    let p =
    placed c.args.level.now c.args.field c.offset.result c.keeps-2.ensures c.requires.ready c.offset.ensures
    c.length.result c.unwrap-offset.result c.unwrap-count.result c.length.ensures c.unwrap-offset.ensures c.unwrap-count.ensures in
    p.narrow

pub learn-requires : goal.learn-requires
learn-requires c =
    let p =
    placed c.args.level.now c.args.field c.offset.result c.keeps-2.ensures c.requires.ready c.offset.ensures
    c.length.result c.unwrap-offset.result c.unwrap-count.result c.length.ensures c.unwrap-offset.ensures c.unwrap-count.ensures in
    record { within = p.within }

pub returns-then-learn-clause-learns : goal.returns-then-learn-clause-learns
returns-then-learn-clause-learns c =
    learns c.args.level_frame.now c.args.level.now c.args.field c.unwrap-offset.result c.unwrap-count.result
    (placed c.args.level.now c.args.field c.offset.result c.keeps-2.ensures c.requires.ready c.offset.ensures
    c.length.result c.unwrap-offset.result c.unwrap-count.result c.length.ensures c.unwrap-offset.ensures c.unwrap-count.ensures)
    c.args.cursor.now.left c.args.from c.requires.within c.in_ok-bits.bits (omega (arith, c.rest.ensures.value)) c.in_ok-bits.ensures c.learn.new.self (c.learn.ensures.learnt c.if-learn.true)

pub returns-else-learn-clause-fault : goal.returns-else-learn-clause-fault
returns-else-learn-clause-fault c =
    refuses c.args.level_frame.now c.args.level.now c.args.field c.unwrap-offset.result c.unwrap-count.result
    (placed c.args.level.now c.args.field c.offset.result c.keeps-2.ensures c.requires.ready c.offset.ensures
    c.length.result c.unwrap-offset.result c.unwrap-count.result c.length.ensures c.unwrap-offset.ensures c.unwrap-count.ensures)
    c.args.cursor.now.left c.args.from c.requires.within c.in_ok-bits.bits (omega (arith, c.rest.ensures.value)) c.in_ok-bits.ensures c.keeps.ensures c.keeps-2.ensures c.requires.at (c.learn.ensures.refused c.if-learn.false)
