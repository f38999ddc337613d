use Rattle.std.proofs.Common.{arith}
use Rattle.sem_context.specs.Placing.{shown}
use Rattle.walk_robust.proofs.Comings.{covered_all}
use Rattle.walk_robust.proofs.successors.is_covered.Goals as goal

pub returns : goal.returns
returns c = λ t.
    let past = c.loop-place-test.false in
    let end = c.len-place-end.ensures.value in
    covered_all (shown c.args.left.now) c.args.context.now c.loop-place.place (omega (arith, past, end)) c.loop-place.invariant
