use Rattle.std.proofs.Common.{◌≡◌, ◌∙◌, ap, map}
use Rattle.std.proofs.lemmas.Result.{IfOk-weaker}
use Rattle.cert_rules.specs.Plans.{rule_of}
use Rattle.cert_prove.specs.Linking.{candidates_of}
use Rattle.cert_prove.specs.Order.{kinds_of}
use Rattle.cert_prove.specs.Searching.{ruled, possible_of}
use Rattle.cert_prove.proofs.Linked.{rows_have_all}
use Rattle.cert_prove.proofs.possible.possible_steps.Goals as goal

pub returns-clause-steps : goal.returns-clause-steps
returns-clause-steps c =
    let rules = rule_of c.args.version c.args.direction c.args.table.now c.args.sizes.now c.args.format.now in
    let rows = c.in_ok-rows.rows.items in
    let steps = c.as_slice-2.ensures ∙ (c.in_ok-steps.ensures ∙ ap (candidates_of (kinds_of c.args.direction)) c.as_slice.ensures.value) in
    let all = rows_have_all c.args.version c.args.direction c.args.table.now c.args.sizes.now c.args.format.now rows c.in_ok-rows.ensures.rows in
    IfOk-weaker c.with_rules.result (λ possible. map (ruled c.args.format.now) possible ≡ possible_of rules c.as_slice-2.result.now) _ (λ possible is. is ∙ (ap (possible_of rules) steps ∙ all)) c.with_rules.ensures
