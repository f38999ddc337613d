use Rattle.std.proofs.Common.{arith}
use Rattle.walk_session.proofs.Values.{too_short, not_held, when_none}
use Rattle.walk_session.proofs.asked.value_at.Goals as goal

pub returns-then-count-octets-clause-none : goal.returns-then-count-octets-clause-none
returns-then-count-octets-clause-none c = too_short c.args.field.now c.args.octets.now c.in-Some.length c.in-Some.ensures.some.0 (omega (arith, c.if-count-octets.true))

pub returns-in_default-2-clause-none : goal.returns-in_default-2-clause-none
returns-in_default-2-clause-none c =
    not_held c.args.field.now c.args.octets.now c.in-Some.length c.in-Some.ensures.some.0 c.in-Some.ensures.some.1 (when_none c.in_ok-bits.field-0 c.in_default-2.is c.in_ok-bits.ensures.none)
