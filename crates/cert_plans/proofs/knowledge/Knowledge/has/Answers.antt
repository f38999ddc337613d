use Rattle.std.proofs.Common.{◌≤◌, length, sym, subst}
use Rattle.cert_plans.proofs.Knowing.{shows_past, past}
use Rattle.cert_plans.proofs.knowledge.Knowledge.has.Goals as goal

pub returns-in-None : goal.returns-in-None
returns-in-None c =
    let fields = c.args.self.now.fields in
    sym (shows_past fields c.args.fact (subst (λ j. length fields ≤ j) c.field_of.ensures (past fields _ c.in-None.ensures.value)))
