use Rattle.std.proofs.Common.{sym, subst}
use Rattle.tool_run.specs.Avoidance.{FitsBy, inside}
use Rattle.tool_run.proofs.AvoidanceLemmas.{candidate_fits}
use Rattle.tool_run.proofs.avoidance.inner_bits.Goals as goal

pub returns-then-branch : goal.returns-then-branch
returns-then-branch c =
    let a = c.args.sought.now.accepted.now in
    let w = inside c.args.path.now c.args.name.now in
    subst (FitsBy a c.args.context.now c.args.item.now w) (sym c.len.ensures.value)
    (candidate_fits a c.args.context.now c.args.item.now c.in-Some.from w c.in-Ok.next c.in-Ok.ensures.packed (rw c.profile.ensures at (c.in_ok-has_inside-in-Ok.ensures c.if-branch.true)))
