use Rattle.std.proofs.Common.{ap, subst}
use Rattle.sem_expr.specs.Ranged.{ranged}
use Rattle.sem_profile.specs.BoundsFaults.{wide_in}
use Rattle.sem_bounds.specs.Magnitude.{bounding, Reaches}
use Rattle.sem_bounds.proofs.MagnitudeLemmas.{binary-reaches}
use Rattle.sem_bounds.proofs.magnitude.+small_reach.Goals as goal

pub returns-in_ok-left-in-Binary : goal.returns-in_ok-left-in-Binary
returns-in_ok-left-in-Binary t c = λ sizes parameters.
    binary-reaches c.small_combined.result sizes parameters c.in-Binary.field-0 c.in-Binary.operator c.args.expr.now c.in-Binary.left.value c.in-Binary.right.value c.in_ok-left-in-Binary.left c.in_ok-right-in-Binary.right
    (λ format. ap (wide_in format sizes) c.in-Binary.is) (ap (ranged (bounding sizes parameters)) c.in-Binary.is)
    (subst (λ e. Reaches sizes parameters e c.in_ok-left-in-Binary.left) c.deref-in-Binary.ensures (c.in_ok-left-in-Binary.ensures sizes parameters))
    (subst (λ e. Reaches sizes parameters e c.in_ok-right-in-Binary.right) c.deref.ensures (c.in_ok-right-in-Binary.ensures sizes parameters)) c.small_combined.ensures
