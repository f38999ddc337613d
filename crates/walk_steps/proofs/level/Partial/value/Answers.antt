use Rattle.std.proofs.Common.{◌∙◌, sym, ap, subst}
use Rattle.sem_expr.specs.Known.{assignment_of}
use Rattle.sem_expr.specs.Spread.{IsRanged}
use Rattle.sem_expr.specs.Values.{val}
use Rattle.walk_steps.proofs.LevelAsked.{asked_ranged, asked_shown}
use Rattle.walk_steps.proofs.level.Partial.value.Goals as goal

pub value-requires-clause-ranged : goal.value-requires-clause-ranged
value-requires-clause-ranged c =
    let l = c.args.self.now in
    subst (λ k. IsRanged (assignment_of k) c.args.expr.now) (sym c.sight.ensures.known) (asked_ranged l.format l.sizes l.args l.slots c.keeps.ensures c.args.expr.now c.requires.asked)

pub returns-clause-shown : goal.returns-clause-shown
returns-clause-shown c = λ known.
    let l = c.args.self.now in
    c.value.ensures ∙ (ap (λ k. val (assignment_of k) c.args.expr.now) c.sight.ensures.known ∙ asked_shown l.format l.sizes l.args l.slots c.keeps.ensures c.args.expr.now c.requires.asked known)
