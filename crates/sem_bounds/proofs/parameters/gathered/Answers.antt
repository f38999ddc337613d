use Rattle.std.proofs.Common.{refl}
use Rattle.sem_bounds.proofs.CallersRows.{walked, gathered-empty}
use Rattle.sem_bounds.proofs.parameters.gathered.Goals as goal

pub returns-then-is_empty : goal.returns-then-is_empty
returns-then-is_empty c = gathered-empty c.args.methods.now c.args.table.now c.args.method c.args.found (c.if-is_empty.ensures.0 refl)

pub returns : goal.returns
returns c = walked c.args.methods.now c.args.table.now c.args.method c.loop-place.place-index _ _ c.args.callers.now c.requires c.loop-place-test.false c.loop-place.invariant
