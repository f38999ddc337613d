use Rattle.std.proofs.Common.{sym}
use Rattle.std.proofs.lemmas.Result.{err_from_is_err_and}
use Rattle.text_statements.specs.Constants.{valueless}
use Rattle.text_statements.proofs.ConstantsEvaluated.{ill}
use Rattle.text_statements.proofs.constant.constant_value.Goals as goal

pub returns-in_err-expr-clause-refused : goal.returns-in_err-expr-clause-refused
returns-in_err-expr-clause-refused c =
    let p = err_from_is_err_and c.from_residual.result c.from_residual.ensures.1 in
    rw (p.1, p.2) (ill c.args.scope.now c.args.part.now c.in_err-expr.field-0.0 c.in_err-expr.ensures.refused)

pub returns-in_err-evaluate-clause-refused : goal.returns-in_err-evaluate-clause-refused
returns-in_err-evaluate-clause-refused c =
    let p = err_from_is_err_and c.from_residual-in_err-evaluate.result c.from_residual-in_err-evaluate.ensures.1 in
    rw (p.1, p.2) (valueless c.in_ok-expr.ensures.means (sym (rw c.span.ensures at c.in_err-evaluate.ensures)))
