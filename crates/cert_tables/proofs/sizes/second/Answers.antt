use Rattle.std.proofs.Common.{arith}
use Rattle.cert_tables.proofs.Sized.{first_within}
use Rattle.cert_tables.proofs.sizes.second.Goals as goal

pub overflow_add-result : goal.overflow_add-result
overflow_add-result c = omega (arith, first_within 0 c.args.nodes.now c.args.sizes.now c.requires.sized c.args.first (omega arith) c.requires.within, c.size_at.ensures)

pub returns-clause-within : goal.returns-clause-within
returns-clause-within c = omega (arith, first_within 0 c.args.nodes.now c.args.sizes.now c.requires.sized c.args.first (omega arith) c.requires.within, c.size_at.ensures)
