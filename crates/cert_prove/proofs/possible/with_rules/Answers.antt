use Rattle.std.proofs.Common.{◌∙◌, map}
use Rattle.std.proofs.lemmas.List.{drop_more}
use Rattle.cert_rules.specs.Plans.{rule_of}
use Rattle.cert_prove.specs.Searching.{ruled}
use Rattle.cert_prove.proofs.GlanceNone.{one_ruled}
use Rattle.cert_prove.proofs.possible.with_rules.Goals as goal

pub loop-step-preserved : goal.loop-step-preserved
loop-step-preserved c =
    let format = c.args.way.now.format.now in
    let steps = c.args.steps.now in
    let i = c.loop-step.step-index in
    one_ruled (rule_of c.args.way.now.version c.args.way.now.direction c.args.way.now.table.now c.args.way.now.sizes.now format) (map (ruled format) c.loop-step.possible) (map (ruled format) c.push_ruled.new.possible) steps i _ (drop_more steps i _ c.loop-step-test.true) c.in_ok-push_ruled.ensures
    ∙ c.loop-step.invariant
