use Rattle.std.proofs.Common.{arith}
use Rattle.cert_tables.proofs.Sized.{first_within, two_are, two_within}
use Rattle.cert_tables.proofs.sizes.two_sizes.Goals as goal

pub overflow_add-place : goal.overflow_add-place
overflow_add-place c = omega (arith, first_within c.args.place c.args.nodes.now c.args.sizes.now c.requires.sized c.args.place (omega arith) c.requires.within, c.size_at-first.ensures)

pub overflow_add-result : goal.overflow_add-result
overflow_add-result c =
    let h = rw (← c.size_at-first.ensures, ← c.size_at.ensures) at (two_within c.args.place c.args.nodes.now c.args.sizes.now c.requires.sized c.args.place (omega arith) c.requires.within) in
    omega (arith, h)

pub returns-clause-value : goal.returns-clause-value
returns-clause-value c = rw (← c.size_at-first.ensures, ← c.size_at.ensures) at (two_are c.args.place c.args.nodes.now c.args.sizes.now c.requires.sized c.args.place (omega arith))

pub returns-clause-within : goal.returns-clause-within
returns-clause-within c = rw (← c.size_at-first.ensures, ← c.size_at.ensures) at (two_within c.args.place c.args.nodes.now c.args.sizes.now c.requires.sized c.args.place (omega arith) c.requires.within)
