use Rattle.std.proofs.Common.{◌+◌, List, sym, drop, subst}
use Rattle.std.proofs.lemmas.List.{drop_more}
use Rattle.cert_types.specs.declared.certificate.Step.{Step}
use Rattle.walk_write.specs.declared.premises.Chosen.{Chosen}
use Rattle.walk_write.specs.Foresight.{HasSeen}
use Rattle.walk_write.proofs.closer.refuted_in.Goals as goal

pub refuted_by_step-requires-clause-before : goal.refuted_by_step-requires-clause-before
refuted_by_step-requires-clause-before c =
    let i = c.loop-step.step-index in
    let Sees : List Step → List Chosen → Type 0 =
    λ steps choices. HasSeen c.args.outlook.now.place.now c.args.outlook.now.index c.args.outlook.now.format.now c.args.outlook.now.source.now.asked.now steps c.args.number c.loop-step.digits choices in
    record {
      later = drop (i + 1) c.args.plan.now;
      seen = subst (Sees _) (sym c.as_slice.ensures) (subst (λ z. Sees z c.loop-step.choices.items) (drop_more c.args.plan.now i _ c.loop-step-test.true) c.loop-step.invariant);
    }

pub loop-step-preserved : goal.loop-step-preserved
loop-step-preserved c =
    let i = c.loop-step.step-index in
    c.in_ok-read_step.ensures (drop (i + 1) c.args.plan.now)
    (subst (λ z. HasSeen c.args.outlook.now.place.now c.args.outlook.now.index c.args.outlook.now.format.now c.args.outlook.now.source.now.asked.now z c.args.number c.loop-step.digits c.loop-step.choices.items) (drop_more c.args.plan.now i _ c.loop-step-test.true) c.loop-step.invariant)
