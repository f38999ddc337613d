use Rattle.std.proofs.Common.{◌+◌, drop, subst}
use Rattle.std.proofs.lemmas.List.{drop_more}
use Rattle.walk_write.specs.Foresight.{HasSeen}
use Rattle.walk_write.specs.Sources.{front}
use Rattle.walk_write.proofs.WalkingPast.{passed_on}
use Rattle.walk_write.proofs.foresight.foreseen_in.Goals as goal

pub loop-step-preserved : goal.loop-step-preserved
loop-step-preserved c =
    let i = c.loop-step.step-index in
    let asked = c.args.outlook.now.source.now.asked.now in
    let told = c.in_ok-is_over.ensures in (
      told.on c.if-is_over.false (drop (i + 1) c.args.plan.now)
          (subst (λ z. HasSeen c.args.outlook.now.place.now c.args.outlook.now.index c.args.outlook.now.format.now asked z c.loop-step.number c.loop-step.digits c.loop-step.choices.items) (drop_more c.args.plan.now i _ c.loop-step-test.true) c.loop-step.invariant.0),
      passed_on c.args.outlook.now.place.now (front c.args.outlook.now.source.now) asked c.args.number.now c.loop-step.number c.foreseen_step.new.number c.loop-step.invariant.1 told.past,
    )

pub returns-then-is_over-clause-past : goal.returns-then-is_over-clause-past
returns-then-is_over-clause-past c =
    passed_on c.args.outlook.now.place.now (front c.args.outlook.now.source.now) c.args.outlook.now.source.now.asked.now c.args.number.now c.loop-step.number c.foreseen_step.new.number c.loop-step.invariant.1 c.in_ok-is_over.ensures.past
