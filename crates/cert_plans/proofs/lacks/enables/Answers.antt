use Rattle.std.proofs.Common.{sym, ◌∙◌, ap}
use Rattle.std.specs.Prelude.{◌&&◌, not, is_some}
use Rattle.std.specs.List.{list_all}
use Rattle.cert_plans.specs.Knowing.{shows}
use Rattle.cert_plans.specs.Few.{facts_in}
use Rattle.cert_plans.specs.Needing.{facts_of_all, first_unknown}
use Rattle.cert_plans.proofs.NeedingUnknown.{all_known_is}
use Rattle.cert_plans.proofs.lacks.enables.Goals as goal

pub returns-then-is_none : goal.returns-then-is_none
returns-then-is_none c =
    let k = c.args.known.now in
    let rule = c.args.rule.now in
    let needs = ap (λ z. first_unknown k (facts_of_all c.args.format.now z)) c.as_slice.ensures in
    let met = all_known_is k (facts_of_all c.args.format.now rule.needs) c.is_none.result (ap is_some (sym (c.lacking.ensures ∙ needs)) ∙ c.is_none.ensures) in
    c.lacks_few.ensures ∙ ap (λ b. b && list_all (λ x. not (shows k x)) (facts_in rule.absent)) (sym c.if-is_none.true ∙ met)

pub returns-else-is_none : goal.returns-else-is_none
returns-else-is_none c =
    let k = c.args.known.now in
    let rule = c.args.rule.now in
    let needs = ap (λ z. first_unknown k (facts_of_all c.args.format.now z)) c.as_slice.ensures in
    let met = all_known_is k (facts_of_all c.args.format.now rule.needs) c.is_none.result (ap is_some (sym (c.lacking.ensures ∙ needs)) ∙ c.is_none.ensures) in
    c.if-is_none.false ∙ ap (λ b. b && list_all (λ x. not (shows k x)) (facts_in rule.absent)) (sym c.if-is_none.false ∙ met)
