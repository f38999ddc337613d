use Rattle.tool_run.proofs.AvoidanceLemmas.{unknown_is}
use Rattle.tool_run.proofs.avoidance.avoid_all.Goals as goal

pub returns-in-None : goal.returns-in-None
returns-in-None c = unknown_is c.args.octets.now c.args.name.now c.args.accepted.now c.args.start c.args.items.now c.unknown_format.result (rw c.profile.ensures at (rw c.in-None.is at c.in_ok-aim.ensures)) c.unknown_format.ensures
