use Rattle.walk_steps.proofs.FindingGaining.{nothing_shows, gains, refuses}
use Rattle.walk_steps.proofs.findings.learn.Goals as goal

pub returns-in_default-clause-fault : goal.returns-in_default-clause-fault
returns-in_default-clause-fault c = nothing_shows c.args.level_frame.now c.args.level.now c.args.field c.args.side c.args.found c.requires.finds c.in_default.is

pub returns-then-learn-clause-gains : goal.returns-then-learn-clause-gains
returns-then-learn-clause-gains c =
    gains c.args.level_frame.now c.args.level.now c.args.field c.args.side c.args.found c.requires.finds c.in-Some.found c.in-Some.is c.learn.new.self (c.learn.ensures.learnt c.if-learn.true)

pub returns-else-learn-clause-fault : goal.returns-else-learn-clause-fault
returns-else-learn-clause-fault c =
    refuses c.args.level_frame.now c.args.level.now c.args.field c.args.side c.args.found c.requires.finds c.in-Some.found c.in-Some.is c.keeps.ensures c.keeps-2.ensures c.requires.at c.requires.within (c.learn.ensures.refused c.if-learn.false)
