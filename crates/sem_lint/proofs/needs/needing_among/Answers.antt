use Rattle.std.proofs.Common.{inl}
use Rattle.sem_lint.proofs.needs.needing_among.Goals as goal

pub returns-in_default : goal.returns-in_default
returns-in_default c = record { dead = c.args.dead.now; tells_obstacles = c.requires; are_all = inl (rw c.methods-methods.ensures at rw c.top-top.ensures at rw c.in_default.is at c.in_ok-sites.ensures.more, c.new.ensures) }
