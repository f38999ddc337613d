use Rattle.sem_profile.specs.Uses.{used_graph}
use Rattle.text_resolve.proofs.CallDepthShallow.{callees_within}
use Rattle.text_resolve.proofs.CallsUsing.{order_of_graph}
use Rattle.text_resolve.proofs.ProfileLimitsWeighed.{judged_limits}
use Rattle.text_resolve.proofs.profile_limits.too_large.Goals as goal

pub deep_call-requires-clause-within : goal.deep_call-requires-clause-within
deep_call-requires-clause-within c = rw c.requires.graph (callees_within (used_graph c.args.methods.now) c.args.order.now (order_of_graph c.args.methods.now c.args.order.now c.requires.order))

pub returns : goal.returns
returns c =
    let deep = rw c.requires.graph at c.in_ok-deep.ensures in
    rw (c.earlier-2.ensures, c.earlier.ensures)
    (judged_limits c.args.names.now c.args.methods.now c.args.top c.in_ok-deep.deep c.first_long.result c.in_ok-heavy.heavy deep c.first_long.ensures c.in_ok-heavy.ensures)
