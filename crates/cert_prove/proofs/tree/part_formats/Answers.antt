use Rattle.std.proofs.Common.{sym, subst}
use Rattle.std.proofs.lemmas.Bool.{iff_false}
use Rattle.cert_prove.specs.Growing.{IsShallow}
use Rattle.cert_prove.proofs.GrowingOutcome.{ordered, kept, deep}
use Rattle.cert_prove.proofs.tree.part_formats.Goals as goal

pub returns-then-branch-clause-ordered : goal.returns-then-branch-clause-ordered
returns-then-branch-clause-ordered c = ordered c.args.version c.args.formats.now c.args.sizes.now c.in_ok-nodes.nodes c.in_ok-nodes.ensures.grown

pub returns-then-branch-clause-kept : goal.returns-then-branch-clause-kept
returns-then-branch-clause-kept c =
    kept c.args.version c.args.formats.now c.args.sizes.now c.in_ok-nodes.nodes c.in_ok-nodes.ensures.grown (subst IsShallow c.as_slice.ensures (c.in_ok-is_shallow.ensures.0 c.if-branch.true))

pub returns-else-branch-clause-unparted : goal.returns-else-branch-clause-unparted
returns-else-branch-clause-unparted c =
    deep c.args.version c.args.formats.now c.args.sizes.now c.in_ok-nodes.nodes c.in_ok-nodes.ensures.grown (λ h. iff_false c.in_ok-is_shallow.ensures c.if-branch.false (subst IsShallow (sym c.as_slice.ensures) h))
