use Rattle.std.proofs.Common.{sym, subst}
use Rattle.walk_write.specs.Refutation.{HasFalse, by_constraint, operand}
use Rattle.walk_write.proofs.RefutationFronts.{known_false}
use Rattle.walk_write.proofs.refutation.is_refuted.Goals as goal

pub returns-then-has_false : goal.returns-then-has_false
returns-then-has_false c = λ t.
    let place = c.args.place.now in
    by_constraint c.in-Some.found.now (sym c.in-Some.ensures)
    (known_false place c.in-Some.found.now.fields c.in-Some.found.now.constraints (subst (HasFalse (operand place.frame.arguments.now)) c.as_slice.ensures (c.if-has_false.ensures t)))
