use Rattle.std.proofs.Common.{drop}
use Rattle.std.proofs.lemmas.List.{drop_more}
use Rattle.cert_types.specs.declared.certificate.Node.TheVariants.{Nowhere}
use Rattle.cert_prove.proofs.GrowingDeep.{too_deep}
use Rattle.cert_prove.proofs.depths.is_shallow.Goals as goal

pub returns-then-depth-gt-DEPTH_LIMIT : goal.returns-then-depth-gt-DEPTH_LIMIT
returns-then-depth-gt-DEPTH_LIMIT c =
    let deep = too_deep c.args.nodes.now (drop c.loop-node.node-index c.args.nodes.now) _ c.loop-node.owed c.pop.new.self c.in-Some.depth _ c.in-Some.ensures
    (drop_more c.args.nodes.now c.loop-node.node-index Nowhere c.loop-node-test.true) c.if-depth-gt-DEPTH_LIMIT.true c.loop-node.invariant in
    (λ h. absurd (cc), λ h. absurd (deep h))
