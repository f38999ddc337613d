use Rattle.std.proofs.Common.{drop}
use Rattle.cert_prove.proofs.GrowingDeep.{DeepTo}
use Rattle.cert_prove.proofs.depths.is_shallow.Given as goal

abbrev pub invariant-loop-node : goal.invariant-loop-node
invariant-loop-node l = DeepTo l.nodes (drop l.node-index l.nodes) l.owed
