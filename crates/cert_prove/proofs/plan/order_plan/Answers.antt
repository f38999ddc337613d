use Rattle.std.proofs.Common.{subst}
use Rattle.cert_prove.specs.Following.{EndsSo}
use Rattle.cert_rules.specs.Plans.{way_of}
use Rattle.cert_prove.proofs.Planned.{never_learns}
use Rattle.cert_prove.proofs.plan.order_plan.Goals as goal

pub returns-in_ok-sides-in-Stopped-clause-refused : goal.returns-in_ok-sides-in-Stopped-clause-refused
returns-in_ok-sides-in-Stopped-clause-refused c =
    let f = c.in_ok-followed.followed in
    let was = c.in_ok-followed.ensures in
    let ends = subst (λ e. EndsSo (way_of c.args.version c.args.direction c.args.table.now c.args.sizes.now c.args.format.now) f.steps f.known e) c.in-Stopped.is was.ends in
    never_learns c.args.version c.args.direction c.args.table.now c.args.sizes.now c.args.format.now f.steps f.known c.in_ok-sides-in-Stopped.sides was.knows ends (c.in_ok-sides-in-Stopped.ensures _ was.knows)
