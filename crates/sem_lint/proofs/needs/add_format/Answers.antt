use Rattle.std.proofs.Common.{refl}
use Rattle.sem_lint.specs.NeedsTold.{not_noted}
use Rattle.sem_lint.proofs.NeedsLacking.{pushed_needing}
use Rattle.sem_lint.proofs.needs.add_format.Goals as goal

pub returns-in_default : goal.returns-in_default
returns-in_default c = not_noted (rw c.in_default.is at c.in_ok-path.ensures.none)

pub returns : goal.returns
returns c = pushed_needing c.args.ground.now c.args.method c.args.number c.args.found.now c.push.new.self _ c.in_ok-push.ensures.ok refl refl (rw c.in-Some.is at c.in_ok-path.ensures.found)
