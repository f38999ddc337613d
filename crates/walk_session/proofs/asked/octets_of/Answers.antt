use Rattle.std.proofs.Common.{◌+◌, rules, subst, arith}
use Rattle.walk_session.proofs.Values.{SpelledSoFar, one_spelled, all_spelled}
use Rattle.walk_session.proofs.asked.octets_of.Goals as goal

pub loop-value-preserved : goal.loop-value-preserved
loop-value-preserved c =
    subst (SpelledSoFar c.args.values.now (c.loop-value.value-index + 1)) (search rules)
    (one_spelled c.args.values.now c.loop-value.value-index c.loop-value.octets.items c.in_ok-own.own.items c.value-item.result c.loop-value-test.true (search rules) c.in_ok-own.ensures c.loop-value.invariant)

pub returns : goal.returns
returns c = all_spelled c.args.values.now c.loop-value.value-index c.loop-value.octets.items (omega (arith, c.loop-value-test.false)) c.loop-value.invariant
