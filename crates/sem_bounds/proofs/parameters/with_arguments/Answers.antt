use Rattle.std.proofs.Common.{◌∙◌, ap, get_or}
use Rattle.std.specs.Prelude.{None}
use Rattle.sem_profile.specs.Parameters.{joined, argument_range}
use Rattle.sem_profile.proofs.PassesPlaces.{indexed-copied}
use Rattle.sem_bounds.proofs.parameters.with_arguments.Goals as goal

pub loop-interval-preserved : goal.loop-interval-preserved
loop-interval-preserved c =
    indexed-copied (λ q o. joined o (argument_range c.args.ranges.now c.args.arguments.now q)) c.args.found.now c.loop-interval.interval-index None _ _ _ _ c.loop-interval-test.true
    c.loop-interval.invariant c.len-place.ensures
    (c.joined.ensures ∙ ap (joined (get_or c.args.found.now c.loop-interval.interval-index None)) c.argument_range.ensures) c.in_ok-push.ensures.ok
