use Rattle.std.proofs.Common.{rules, ap, sym, ◌∙◌}
use Rattle.sem_expr.specs.Bounds.{bounding_of}
use Rattle.sem_reasons.specs.Reasons.{undefined_at}
use Rattle.sem_reasons.proofs.FieldsClear.{all_valued, next_valued, sees_none}
use Rattle.sem_reasons.proofs.ReasonsMaking.{no_truth_is}
use Rattle.sem_reasons.proofs.verdicts.told_by_truth.Goals as goal

pub alone-requires : goal.alone-requires
alone-requires c =
    no_truth_is c.args.sighted.now c.requires.sighted c.loop-number.number c.in-Some.at
    (ap (λ z. undefined_at (bounding_of c.args.sighted.now.ranges.now) z c.loop-number.number) (sym c.as_slice-constraints.ensures) ∙ (sym c.undefined_at.ensures ∙ c.in-Some.is))

pub loop-number-preserved : goal.loop-number-preserved
loop-number-preserved c =
    next_valued (bounding_of c.args.sighted.now.ranges.now) c.args.sighted.now.look.format.now.constraints c.loop-number.number
    (ap (λ z. undefined_at (bounding_of c.args.sighted.now.ranges.now) z c.loop-number.number) (sym c.as_slice-constraints.ensures) ∙ (sym c.undefined_at.ensures ∙ c.in_default.is)) c.loop-number.invariant

pub returns : goal.returns
returns c =
    sees_none c.args.sighted.now c.requires.sighted c.requires.clear c.requires.none
    (all_valued (bounding_of c.args.sighted.now.ranges.now) c.args.sighted.now.look.format.now.constraints c.loop-number.number (search rules) c.loop-number.invariant)
