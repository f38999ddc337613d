use Rattle.std.proofs.Common.{arith}
use Rattle.sem_graph.proofs.Measuring.{heavy_more, heavy_all, weight_is}
use Rattle.sem_graph.proofs.weight.weights.Goals as goal

pub loop-method-preserved : goal.loop-method-preserved
loop-method-preserved c =
    let is = weight_is _ _ _ _ _ c.greatest_weight-most.ensures c.as_slice.ensures c.as_slice-in-loop-method.ensures in
    rw c.set.ensures (heavy_more _ _ _ _ _ _ c.requires c.loop-method.invariant c.loop-method-test.true c.index-methods-method.is is)

pub returns : goal.returns
returns c = heavy_all _ _ _ _ c.requires (omega (arith, c.loop-method-test.false)) c.loop-method.invariant
