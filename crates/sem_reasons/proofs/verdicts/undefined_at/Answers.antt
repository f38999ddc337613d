use Rattle.std.proofs.Common.{◌≡◌, refl, ap, sym, ◌∙◌}
use Rattle.std.specs.Prelude.{Some, slice_get}
use Rattle.std.specs.Option.{option_and_then}
use Rattle.std.proofs.lemmas.Option.{slice_get_read}
use Rattle.sem_expr.specs.Bounds.{bounding_of}
use Rattle.sem_lint.specs.Undefined.{undefined_condition, undefined_constraint}
use Rattle.sem_reasons.proofs.FieldsClear.{lone_condition}
use Rattle.sem_reasons.proofs.verdicts.undefined_at.Goals as goal

pub returns-in-Some : goal.returns-in-Some
returns-in-Some c =
    let r = bounding_of c.args.ranges.now in
    let at : slice_get c.args.constraints.now c.args.number ≡ Some c.in-Some.constraint.now =
    slice_get_read c.args.constraints.now _ c.args.number c.in-Some.constraint.now refl c.in-Some.ensures.lookup.3.0 c.in-Some.ensures.lookup.1 in
    c.undefined_condition.ensures ∙ (ap (undefined_condition r) c.from_ref.ensures.value ∙ (lone_condition r c.in-Some.constraint.now ∙ sym (ap (option_and_then (undefined_constraint r)) at)))
