use Rattle.std.proofs.Common.{ap, sym, ◌∙◌}
use Rattle.sem_profile.specs.BoundsLaws.{encoding_exprs}
use Rattle.sem_expr.specs.Bounds.{bounding_of}
use Rattle.sem_lint.specs.Undefined.{first_undefined}
use Rattle.sem_reasons.proofs.ReasonsMaking.{no_argument_is}
use Rattle.sem_reasons.proofs.verdicts.told_by_argument.Goals as goal

pub alone-requires : goal.alone-requires
alone-requires c =
    no_argument_is c.args.sighted.now c.requires.sighted c.args.index c.args.field.now c.requires.at c.in-Some.at
    (ap (λ z. first_undefined (bounding_of c.args.sighted.now.ranges.now) (encoding_exprs z)) (sym c.get.ensures) ∙ (sym c.undefined_argument.ensures ∙ c.in-Some.is))
