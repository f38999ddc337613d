use Rattle.std.proofs.Common.{rules}
use Rattle.sem_pages.proofs.Levels.{packed_next}
use Rattle.sem_pages.proofs.sides.packed_of.Goals as goal

pub loop-i-preserved : goal.loop-i-preserved
loop-i-preserved c = rw (c.in_ok-adds_packed.ensures c.if-not-branch.false) (packed_next _ _ _ _ c.loop-i.packed _ (search rules) c.loop-i-test.true c.loop-i.invariant)
