use Rattle.std.proofs.Common.{sym, ◌∙◌, ap}
use Rattle.std.specs.Prelude.{is_some}
use Rattle.std.specs.List.{list_all}
use Rattle.cert_plans.specs.Knowing.{shows}
use Rattle.cert_plans.specs.Needing.{facts_of_all, first_unknown}
use Rattle.cert_plans.proofs.NeedingUnknown.{all_known_is}
use Rattle.cert_prove.specs.Needed.{AskTheSame}
use Rattle.cert_prove.proofs.SearchingAwaiting.{stands_at_first}
use Rattle.cert_prove.proofs.rest.lacking_of.Goals as goal

pub returns-in_ok-left-in-None-clause-lacks : goal.returns-in_ok-left-in-None-clause-lacks
returns-in_ok-left-in-None-clause-lacks c =
    let needs = facts_of_all c.args.format.now c.args.rule.now.needs in
    let same : AskTheSame c.in_ok-left-in-None.left needs = λ known. c.in_ok-left-in-None.ensures known ∙ ap (λ z. list_all known (facts_of_all c.args.format.now z)) c.as_slice-in-None.ensures in
    c.last_lacking-fact.ensures.lacks needs (stands_at_first (shows c.args.known.now) needs c.in_ok-left-in-None.left same)

pub returns-then-is_none-clause-lacks : goal.returns-then-is_none-clause-lacks
returns-then-is_none-clause-lacks c =
    let k = c.args.known.now in
    let needs = facts_of_all c.args.format.now c.args.rule.now.needs in
    let first = c.lacking.ensures ∙ ap (λ z. first_unknown k (facts_of_all c.args.format.now z)) c.as_slice.ensures in
    sym (all_known_is k needs c.is_none.result (ap is_some (sym first) ∙ c.is_none.ensures)) ∙ c.if-is_none.true
