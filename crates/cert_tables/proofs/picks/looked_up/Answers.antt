use Rattle.std.proofs.Common.{◌∙◌, None, [], arith}
use Rattle.cert_tables.proofs.picks.looked_up.Goals as goal

pub loop-next-smaller : goal.loop-next-smaller
loop-next-smaller c =
    let further = (c.in-Some.ensures.on (λ n. None) []).further in
    omega (arith, further, c.in-Some.ensures.within)

pub loop-next-preserved : goal.loop-next-preserved
loop-next-preserved c =
    let further = (c.in-Some.ensures.on (λ n. None) []).further in
    (λ refs args. (c.in-Some.ensures.on refs args).same ∙ c.loop-next.invariant.0 refs args, omega (arith, further, c.loop-next.invariant.1))
