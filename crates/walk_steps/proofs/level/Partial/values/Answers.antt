use Rattle.std.proofs.Common.{◌≡◌, ◌∙◌, sym, ap, subst, true}
use Rattle.std.proofs.lemmas.Result.{IfOk-weaker}
use Rattle.sem_expr.specs.Known.{assignment_of}
use Rattle.sem_expr.specs.Spread.{IsRanged}
use Rattle.sem_filling.specs.Fits.{vals}
use Rattle.cert_rules.specs.Facts.{inputs_of_all}
use Rattle.cert_rules.specs.Reading.{known_numbers}
use Rattle.cert_rules.specs.Slots.{knows_all}
use Rattle.walk_steps.proofs.LevelAsked.{asked_ranged, all_shown}
use Rattle.walk_steps.proofs.level.Partial.values.Goals as goal

pub values_in-requires-clause-ranged : goal.values_in-requires-clause-ranged
values_in-requires-clause-ranged c = λ n e at.
    let l = c.args.self.now in
    subst (λ k. IsRanged (assignment_of k) e) (sym c.sight.ensures.known) (asked_ranged l.format l.sizes l.args l.slots c.keeps.ensures e (c.requires.asked n e at))

pub returns : goal.returns
returns c =
    let l = c.args.self.now in
    let es = c.args.exprs.now in
    record {
      shown = IfOk-weaker c.values_in.result _ (λ o. knows_all l.format l.slots (inputs_of_all l.format es) ≡ true → o ≡ vals (known_numbers l.format l.slots l.args) es)
          (λ o is known. is ∙ (ap (λ k. vals (assignment_of k) es) c.sight.ensures.known ∙ all_shown l.format l.sizes l.args l.slots c.keeps.ensures es c.requires.asked known))
          c.values_in.ensures;
    }
