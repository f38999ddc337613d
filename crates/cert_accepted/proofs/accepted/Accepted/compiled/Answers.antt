use Rattle.std.proofs.Common.{subst}
use Rattle.cert_compiled.specs.Compiled.{AreCompiled}
use Rattle.cert_compiled.specs.Single.{AreSingles}
use Rattle.cert_accepted.proofs.accepted.Accepted.compiled.Goals as goal

pub returns-clause-plans : goal.returns-clause-plans
returns-clause-plans c = subst (λ a. AreCompiled a.profile.methods a.profile.sizes c.self.inside.compiled.plan_acts) c.self.view_is c.self.invariant.2

pub returns-clause-singles : goal.returns-clause-singles
returns-clause-singles c = subst (λ a. AreSingles a.profile.methods a.certificate.methods c.self.inside.compiled.singles) c.self.view_is c.self.invariant.3
