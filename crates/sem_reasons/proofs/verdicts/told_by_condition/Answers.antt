use Rattle.std.proofs.Common.{ap, subst, ◌∙◌}
use Rattle.std.specs.Prelude.{slice_get}
use Rattle.sem_expr.specs.Bounds.{bounding_of}
use Rattle.sem_lint.specs.Never.{IsUntrue}
use Rattle.sem_reasons.specs.Figures.{figures_at}
use Rattle.sem_reasons.proofs.ReasonsMaking.{untrue_is}
use Rattle.sem_reasons.proofs.verdicts.told_by_condition.Goals as goal

pub alone-requires : goal.alone-requires
alone-requires c =
    untrue_is c.args.sighted.now c.requires.sighted c.in-Some.constraint c.in_ok-figures.figures
    (c.in_ok-figures.ensures ∙ ap (λ z. figures_at (bounding_of c.args.sighted.now.ranges.now) (slice_get z c.in-Some.constraint)) c.as_slice-constraints.ensures)
    (subst (λ z. IsUntrue z (bounding_of c.args.sighted.now.ranges.now) c.in-Some.constraint) c.as_slice-constraints.ensures (rw c.in-Some.is at c.first_untrue.ensures))

pub told_by_truth-requires-clause-none : goal.told_by_truth-requires-clause-none
told_by_truth-requires-clause-none c =
    subst (λ z. (j : _) → IsUntrue z (bounding_of c.args.sighted.now.ranges.now) j → ⊥) c.as_slice-constraints.ensures (rw c.in_default.is at c.first_untrue.ensures)
