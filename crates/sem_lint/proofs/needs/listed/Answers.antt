use Rattle.sem_lint.proofs.NeedsLacking.{all_listed}
use Rattle.sem_lint.proofs.needs.listed.Goals as goal

pub returns : goal.returns
returns c = all_listed c.args.ground.now c.loop-index.index c.loop-index.found c.loop-index-test.false c.loop-index.invariant
