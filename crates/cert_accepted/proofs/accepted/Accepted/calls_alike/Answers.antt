use Rattle.std.proofs.Common.{subst}
use Rattle.std.specs.Prelude.{IsTrue}
use Rattle.sem_elsewhere.specs.Paths.{CallAlike}
use Rattle.cert_accepted.proofs.accepted.Accepted.calls_alike.Goals as goal

pub returns : goal.returns
returns c = subst (λ a. IsTrue c.self.inside.alike → CallAlike a.profile.methods) c.self.view_is c.self.invariant.4
