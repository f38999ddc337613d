use Rattle.std.proofs.Common.{arith}
use Rattle.std.proofs.lemmas.Option.{slice_get_within}
use Rattle.sem_expr.specs.Bounds.{bounding_of}
use Rattle.sem_lint.specs.Demands.{IsUnmetAt}
use Rattle.sem_lint.proofs.LengthsFirst.{none_up_to}
use Rattle.sem_lint.proofs.demands.first_unmet.Goals as goal

pub loop-field-preserved : goal.loop-field-preserved
loop-field-preserved c = none_up_to (IsUnmetAt c.args.fields.now (bounding_of c.args.ranges.now)) c.loop-field.field c.loop-field.invariant c.in_default.ensures

pub returns : goal.returns
returns c = λ u has.
    c.loop-field.invariant has.0 u (let within = slice_get_within c.args.fields.now has.0 has.1.field has.1.field_at in let end = c.loop-field-test.false in omega arith) has.1
