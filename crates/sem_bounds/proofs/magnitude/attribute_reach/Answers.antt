use Rattle.sem_bounds.proofs.MagnitudeLemmas.{narrow-by}
use Rattle.sem_bounds.proofs.magnitude.attribute_reach.Goals as goal

pub returns : goal.returns
returns c = narrow-by c.measured.result c.args.sizes.now c.args.attribute c.in_ok-sides.sides c.side_bounds.result (c.in_ok-sides.ensures {u = tt}) c.side_bounds.ensures c.measured.ensures
