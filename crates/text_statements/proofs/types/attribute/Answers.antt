use Rattle.std.proofs.Common.{◌∙◌, ap, Some, sym}
use Rattle.std.proofs.lemmas.Result.{err_from_is_err_and}
use Rattle.text_statements.specs.Means.{attribute}
use Rattle.text_statements.proofs.JudgedLeaves.{attribute_right, attribute_refused, no_attributes}
use Rattle.text_statements.proofs.types.attribute.Goals as goal

pub returns-then-not-has_attributes-clause-refused : goal.returns-then-not-has_attributes-clause-refused
returns-then-not-has_attributes-clause-refused c =
    no_attributes c.args.scope.now c.args.at c.args.owner c.args.which (sym c.if-not-has_attributes.ensures) ∙ ap Some (sym c.wrong_kind.ensures)

pub returns-in_err-subject-clause-refused : goal.returns-in_err-subject-clause-refused
returns-in_err-subject-clause-refused c =
    let p = err_from_is_err_and c.from_residual.result c.from_residual.ensures.1 in
    rw (p.1, p.2) (attribute_refused c.args.scope.now c.args.at c.args.owner c.args.which c.in_err-subject.field-0.0 (sym c.if-not-has_attributes.ensures) c.in_err-subject.ensures.refused)

pub returns-clause-means : goal.returns-clause-means
returns-clause-means c = rw (c.side.ensures, c.measure.ensures) (attribute (sym c.if-not-has_attributes.ensures) c.in_ok-subject.ensures.found)

pub returns-clause-right : goal.returns-clause-right
returns-clause-right c =
    attribute_right c.args.scope.now c.args.at c.args.owner c.args.which c.in_ok-subject.subject c.side.result c.measure.result (sym c.if-not-has_attributes.ensures) c.in_ok-subject.ensures.known
    c.in_ok-subject.ensures.found c.side.ensures c.measure.ensures
