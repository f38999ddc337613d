use Rattle.std.proofs.Common.{◌+◌, drop, rules, subst, arith}
use Rattle.std.proofs.lemmas.List.{take_rest}
use Rattle.walk_session.specs.Asked.{IsValueAt, LacksValue}
use Rattle.walk_session.proofs.Values.{SoFar, one_more, lacking, too_many, all_there, when_none, when_some}
use Rattle.walk_session.proofs.asked.values_of.Goals as goal

pub returns-in-None-clause-none : goal.returns-in-None-clause-none
returns-in-None-clause-none c =
    let lacks : LacksValue c.field-item.result (drop c.loop-field.place c.args.octets.now) =
    subst (LacksValue c.field-item.result) (take_rest c.args.octets.now c.loop-field.place) (when_none c.in_ok-found.field-0 c.in-None.is c.in_ok-found.ensures.none) in
    lacking c.args.fields.now c.args.octets.now c.loop-field.field-index c.loop-field.place c.loop-field.values c.field-item.result c.loop-field-test.true (search rules) lacks c.loop-field.invariant

pub loop-field-preserved : goal.loop-field-preserved
loop-field-preserved c =
    let value : IsValueAt c.field-item.result (drop c.loop-field.place c.args.octets.now) c.in-Some.found.0 c.in-Some.found.1 =
    subst (λ o. IsValueAt c.field-item.result o c.in-Some.found.0 c.in-Some.found.1) (take_rest c.args.octets.now c.loop-field.place) (when_some _ c.in_ok-found.field-0 c.in-Some.found c.in-Some.is c.in_ok-found.ensures.some) in
    subst (SoFar c.args.fields.now c.args.octets.now (c.loop-field.field-index + 1) (c.loop-field.place + c.in-Some.found.1)) (search rules)
    (one_more c.args.fields.now c.args.octets.now c.loop-field.field-index c.loop-field.place c.loop-field.values c.field-item.result c.in-Some.found.0 c.in-Some.found.1 c.loop-field-test.true (search rules) value c.loop-field.invariant)

pub returns-then-place-octets-clause-none : goal.returns-then-place-octets-clause-none
returns-then-place-octets-clause-none c =
    too_many c.args.fields.now c.args.octets.now c.loop-field.field-index c.loop-field.place c.loop-field.values (omega (arith, c.loop-field-test.false)) c.if-place-octets.true c.loop-field.invariant

pub returns-clause-some : goal.returns-clause-some
returns-clause-some c =
    all_there c.args.fields.now c.args.octets.now c.loop-field.field-index c.loop-field.place c.loop-field.values (omega (arith, c.loop-field-test.false)) (omega (arith, c.if-place-octets.false)) c.loop-field.invariant
