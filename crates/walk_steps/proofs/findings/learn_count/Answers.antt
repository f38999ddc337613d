use Rattle.walk_steps.proofs.FindingGaining.{counts_find, count_gains, on_ok}
use Rattle.walk_steps.proofs.findings.learn_count.Goals as goal

pub learn-requires-clause-finds : goal.learn-requires-clause-finds
learn-requires-clause-finds c =
    counts_find c.args.level_frame.now c.args.level.now c.args.field c.args.side c.args.count c.measured.result c.keeps.ensures c.keeps-2.ensures c.requires.at c.requires.within c.requires.counts c.measured.ensures.found c.measured.ensures.none

pub returns-clause-gains : goal.returns-clause-gains
returns-clause-gains c =
    on_ok c.learn.result _ _ (count_gains c.args.level_frame.now c.args.level.now c.learn.new.level c.args.field c.args.side c.args.count c.measured.result c.measured.ensures.found) c.learn.ensures.gains
