use Rattle.sem_lint.specs.Listing.{unchanged as noted_unchanged}
use Rattle.sem_lint.proofs.Listed.{pushed}
use Rattle.sem_lint.proofs.formats.add_format.Goals as goal

pub returns-in_ok-push : goal.returns-in_ok-push
returns-in_ok-push c =
    pushed c.args.judged.now c.args.method c.args.format c.args.found.now c.push.new.self c.in-Some.obstacle c.in_ok-push.ensures.ok (rw c.in-Some.is at c.in_ok-obstacle.ensures.found)

pub returns-in_default : goal.returns-in_default
returns-in_default c = noted_unchanged (rw c.in_default.is at c.in_ok-obstacle.ensures.none)
