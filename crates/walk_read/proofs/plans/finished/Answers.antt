use Rattle.std.proofs.Common.{sym, subst, ◌<◌, length}
use Rattle.sem_filling.specs.Ready.{ArgumentsLieAt}
use Rattle.sem_profile.specs.Resolved.{Resolved}
use Rattle.walk_read.proofs.plans.finished.Goals as goal

pub level_fits-requires-clause-within : goal.level_fits-requires-clause-within
level_fits-requires-clause-within c = subst (λ (p : Resolved). c.args.place.now.frame.method < length p.methods) (sym c.requires.stands.profile_is) c.requires.stands.within

pub level_fits-requires-clause-arguments : goal.level_fits-requires-clause-arguments
level_fits-requires-clause-arguments c =
    subst (λ (p : Resolved). ArgumentsLieAt p c.args.place.now.frame.method c.args.place.now.frame.arguments.now) (sym c.requires.stands.profile_is) c.requires.stands.lie
