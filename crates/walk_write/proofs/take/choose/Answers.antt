use Rattle.walk_write.proofs.WalkingChoosing.{spells, chosen_learns, chosen_known, chosen_blamed}
use Rattle.walk_write.proofs.take.choose.Goals as goal

pub returns-clause-learns : goal.returns-clause-learns
returns-clause-learns c =
    let is = spells c.in_ok-bits.field-0 c.in-Some.bits c.args.count c.args.digit c.in-Some.is c.in_ok-bits.ensures in
    chosen_learns c.args.level_frame.now c.args.level.now c.learn.new.level c.args.field c.args.count c.args.digit c.in-Some.bits is c.learn.result c.args.level_frame.now.frame.profile.now.sizes c.requires.chosen c.learn.ensures.learns

pub returns-clause-known : goal.returns-clause-known
returns-clause-known c =
    let is = spells c.in_ok-bits.field-0 c.in-Some.bits c.args.count c.args.digit c.in-Some.is c.in_ok-bits.ensures in
    chosen_known c.args.level_frame.now c.args.level.now c.learn.new.level c.args.field c.args.count c.args.digit c.in-Some.bits is c.learn.result c.requires.below c.learn.ensures.learns

pub returns-clause-fault : goal.returns-clause-fault
returns-clause-fault c =
    let is = spells c.in_ok-bits.field-0 c.in-Some.bits c.args.count c.args.digit c.in-Some.is c.in_ok-bits.ensures in
    chosen_blamed c.args.level_frame.now c.args.level.now c.learn.new.level c.args.field c.args.count c.args.digit c.in-Some.bits is c.learn.result c.learn.ensures.fault
