use Rattle.std.proofs.Common.{length}
use Rattle.std.specs.Prelude.{option_map}
use Rattle.std.proofs.lemmas.Result.{IfOk-weaker}
use Rattle.cert_rules.specs.Plans.{way_of}
use Rattle.cert_plans.specs.Judging.{AreLearnt}
use Rattle.cert_plans.specs.Needing.{told}
use Rattle.cert_plans.proofs.FaultsGivens.{rule_gives}
use Rattle.cert_plans.proofs.Judged.{followed_more, stopped, ended}
use Rattle.cert_plans.proofs.faults.plan_fault.Goals as goal

pub returns-then-not-follow-clause-found : goal.returns-then-not-follow-clause-found
returns-then-not-follow-clause-found c =
    let format = c.args.format.now in
    stopped (way_of c.args.version c.args.direction c.args.table.now c.args.sizes.now format) (length format.fields) c.args.steps.now c.loop-index.index _ (option_map (told format) c.in_ok-rule.rule) c.loop-index.known c.loop-index-test.true c.loop-index.invariant c.in_ok-rule.ensures
    c.if-not-follow.ensures.enabled

pub loop-index-preserved : goal.loop-index-preserved
loop-index-preserved c =
    let format = c.args.format.now in
    followed_more (way_of c.args.version c.args.direction c.args.table.now c.args.sizes.now format) (length format.fields) c.args.steps.now c.loop-index.index _ (option_map (told format) c.in_ok-rule.rule) c.loop-index.known c.follow.new.known c.loop-index-test.true c.loop-index.invariant
    c.in_ok-rule.ensures (rule_gives c.args.version c.args.direction c.args.table.now c.args.sizes.now format _) c.if-not-follow.ensures.enabled c.if-not-follow.ensures.learnt c.if-not-follow.ensures.width

pub returns-clause-right : goal.returns-clause-right
returns-clause-right c =
    let format = c.args.format.now in
    let way = way_of c.args.version c.args.direction c.args.table.now c.args.sizes.now format in
    IfOk-weaker c.never_learnt.result (AreLearnt way.goals c.loop-index.known) _ (λ o are. (ended way (length format.fields) c.args.steps.now c.loop-index.index c.loop-index.known o c.loop-index-test.false c.loop-index.invariant are).0)
    c.never_learnt.ensures

pub returns-clause-found : goal.returns-clause-found
returns-clause-found c =
    let format = c.args.format.now in
    let way = way_of c.args.version c.args.direction c.args.table.now c.args.sizes.now format in
    IfOk-weaker c.never_learnt.result (AreLearnt way.goals c.loop-index.known) _ (λ o are. (ended way (length format.fields) c.args.steps.now c.loop-index.index c.loop-index.known o c.loop-index-test.false c.loop-index.invariant are).1)
    c.never_learnt.ensures
