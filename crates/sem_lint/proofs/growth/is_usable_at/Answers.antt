use Rattle.sem_lint.proofs.NeedsGrowing.{usable_found}
use Rattle.sem_lint.proofs.growth.is_usable_at.Goals as goal

pub returns-in-Some : goal.returns-in-Some
returns-in-Some c = usable_found c.args.ground.now c.args.flags.now c.args.method c.args.path.now c.in-Some.place c.is_usable.result c.requires c.in-Some.ensures.found c.is_usable.ensures
