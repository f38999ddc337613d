use Rattle.walk_write.specs.Refutation.{by_constraint, by_header}
use Rattle.walk_write.proofs.RefutationFronts.{told}
use Rattle.walk_write.proofs.refutation.is_refuted_else.Goals as goal

pub returns-then-is_contrary : goal.returns-then-is_contrary
returns-then-is_contrary c = λ t. by_constraint c.args.found.now c.requires.found (c.in_ok-is_contrary.ensures c.if-is_contrary.true)

pub returns : goal.returns
returns c =
    let looked = c.in-Some.ensures c.args.found.now c.requires.found in
    told c.differs.result (λ h. by_header c.args.found.now looked.sizes c.requires.found looked.sizes_are (h looked.sizes.fields looked.right)) c.differs.ensures
