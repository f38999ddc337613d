use Rattle.cert_prove.proofs.entries.format_plan.Goals as goal

pub returns-in-Err-clause-lacks : goal.returns-in-Err-clause-lacks
returns-in-Err-clause-lacks c = c.of_unordered.ensures c.args.way.now.table.now c.args.way.now.sizes.now c.args.way.now.format.now c.in-Err.ensures.refused c.requires
