use Rattle.std.proofs.Common.{subst}
use Rattle.cert_compiled.specs.Compiled.{AreCompiled}
use Rattle.cert_compiled.specs.Single.{AreSingles}
use Rattle.cert_check.proofs.validity.accepted.Goals as goal

pub of-requires-in-Ok-format_counts-clause-compiled : goal.of-requires-in-Ok-format_counts-clause-compiled
of-requires-in-Ok-format_counts-clause-compiled c =
    let plans = c.in-Ok-of.compiled.plan_acts in
    subst (λ z. AreCompiled c.args.profile.methods z plans) c.sizes.ensures (subst (λ z. AreCompiled z c.sizes.result.now plans) c.methods-methods.ensures c.in-Ok-of.ensures.plans)

pub of-requires-in-Ok-format_counts-clause-singles : goal.of-requires-in-Ok-format_counts-clause-singles
of-requires-in-Ok-format_counts-clause-singles c =
    let singles = c.in-Ok-of.compiled.singles in
    subst (λ z. AreSingles c.args.profile.methods z singles) c.methods-entries.ensures (subst (λ z. AreSingles z c.methods-entries.result.now singles) c.methods-methods.ensures c.in-Ok-of.ensures.singles)
