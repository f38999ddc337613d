use Rattle.cert_accepted.proofs.Looking.{looks_by}
use Rattle.cert_accepted.proofs.frame.looks_of.Goals as goal

pub returns : goal.returns
returns c = looks_by c.args.accepted.now c.compiled.result.now.plan_acts c.args.method c.args.index c.looks.result (λ l. l.now) c.compiled.ensures.plans c.looks.ensures
