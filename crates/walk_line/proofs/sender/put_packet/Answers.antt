use Rattle.std.proofs.Common.{rules, subst}
use Rattle.std.specs.Prelude.{IsTrue}
use Rattle.walk_engine.specs.Sending.{StandsAs}
use Rattle.walk_pages.proofs.Going.{paths_by}
use Rattle.walk_line.proofs.sender.put_packet.Goals as goal

pub returns-then-branch-clause-ok : goal.returns-then-branch-clause-ok
returns-then-branch-clause-ok c =
    let found = c.in-Ok-Page.ensures.sent.sent in
    let adds = c.in_ok-put_page-in-Ok-Page.ensures.ok c.if-branch.true found.filling found.best.fits (subst (StandsAs c.args.accepted.now found.filling) c.in-Ok-Page.field-0-is found.stands) in
    record { filling = found.filling; octets = adds.octets; best = found.best; holds = adds.holds; next_is = adds.next_is; after_is = adds.after_is }

pub returns-then-branch-clause-kept : goal.returns-then-branch-clause-kept
returns-then-branch-clause-kept c =
    let found = c.in-Ok-Page.ensures.sent.sent in
    c.in_ok-put_page-in-Ok-Page.ensures.kept c.if-branch.true found.filling found.best.fits (subst (StandsAs c.args.accepted.now found.filling) c.in-Ok-Page.field-0-is found.stands)

pub put_page-requires : goal.put_page-requires
put_page-requires c = λ known. paths_by c.args.accepted.now c.args.context.now c.take-page.result (search rules) (subst IsTrue c.is_some-known.ensures known)
