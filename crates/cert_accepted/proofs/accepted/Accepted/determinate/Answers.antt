use Rattle.std.proofs.Common.{rules}
use Rattle.cert_accepted.proofs.Accepting.{determined}
use Rattle.cert_accepted.proofs.accepted.Accepted.determinate.Goals as goal

pub returns : goal.returns
returns c = determined c.args.self.now c.self.inside.profile (search rules) c.keeps-2.ensures.sized c.keeps-2.ensures.alike c.keeps.ensures
