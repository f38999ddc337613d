use Rattle.std.proofs.Common.{rules, ◌≡◌, ◌+◌, take, to_z, of_z}
use Rattle.std.specs.Int.{w128}
use Rattle.std.proofs.lemmas.Result.{err_from_is_err_and}
use Rattle.text_statements.specs.Constants.{constants_in, AreValues, no_values}
use Rattle.text_statements.proofs.ConstantsListing.{more_values, no_constant, first_fault}
use Rattle.text_statements.proofs.table.values_in.Goals as goal
use Rattle.text_statements.proofs.table.values_in.Goals.{in-Constant+in_ok-value-in-Constant+in_ok-push-in-Constant, in-Method}

pub loop-part-init : goal.loop-part-init
loop-part-init c = rw c.new-found.ensures no_values

pub returns-in_err-value-in-Constant-clause-refused : goal.returns-in_err-value-in-Constant-clause-refused
returns-in_err-value-in-Constant-clause-refused c =
    let p = err_from_is_err_and c.from_residual.result c.from_residual.ensures.1 in
    rw (p.1, p.2) (first_fault c.args.text.now c.args.names.now c.args.parts.now c.loop-part.part-index c.part-item.result c.in-Constant.constant c.loop-part.found
    c.in_err-value-in-Constant.field-0.0 c.loop-part.invariant c.loop-part-test.true c.part-item.is c.in-Constant.is
    (rw (c.of_constants-scope.ensures, c.as_slice.ensures) at c.in_err-value-in-Constant.ensures.refused))

pub loop-part-preserved : goal.loop-part-preserved
loop-part-preserved c =
    elim c.match-part.branch as (λ _. AreValues c.args.text.now c.args.names.now (constants_in (take (c.loop-part.part-index + 1) c.args.parts.now)) c.match-part.found) [
      | in-Constant+in_ok-value-in-Constant+in_ok-push-in-Constant w ↦
          let whole : to_z w128 (of_z w128 w.in_ok-value-in-Constant.value) ≡ w.in_ok-value-in-Constant.value = search rules in
          rw (w.found-is, w.in_ok-push-in-Constant.ensures.ok, whole)
          (more_values c.args.text.now c.args.names.now c.args.parts.now c.loop-part.part-index c.part-item.result w.in-Constant.constant c.loop-part.found
          w.in_ok-value-in-Constant.value c.loop-part.invariant c.loop-part-test.true c.part-item.is w.in-Constant.is
          (rw (w.of_constants-scope.ensures, w.as_slice.ensures) at w.in_ok-value-in-Constant.ensures.value))
      | in-Method w ↦
          rw (w.found-is, no_constant c.args.parts.now c.loop-part.part-index c.part-item.result w.in-Method.field-0 c.loop-part-test.true c.part-item.is w.in-Method.is) c.loop-part.invariant
    ]
