use Rattle.std.proofs.Common.{map}
use Rattle.cert_rules.specs.Plans.{rule_of}
use Rattle.cert_prove.specs.Searching.{ruled}
use Rattle.cert_prove.proofs.GlanceNone.{left_out}
use Rattle.cert_prove.proofs.possible.push_ruled.Goals as goal

pub returns-then-not-may_have_rule : goal.returns-then-not-may_have_rule
returns-then-not-may_have_rule c =
    let format = c.args.way.now.format.now in
    left_out c.args.step (rule_of c.args.way.now.version c.args.way.now.direction c.args.way.now.table.now c.args.way.now.sizes.now format c.args.step) (map (ruled format) c.args.possible.now)
    (c.may_have_rule.ensures c.args.way.now.version c.args.way.now.direction c.args.way.now.table.now c.args.way.now.sizes.now (search))
