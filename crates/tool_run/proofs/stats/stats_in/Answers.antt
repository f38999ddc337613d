use Rattle.std.proofs.Common.{◌∙◌}
use Rattle.tool_run.specs.Printed.{StatsIn, SurveyBy, items_counted}
use Rattle.tool_run.proofs.PrintedTallying.{bad_items_are}
use Rattle.tool_input.proofs.RefusalsHeld.{passed_on}
use Rattle.tool_run.proofs.stats.stats_in.Goals as goal

pub returns-in-Ok : goal.returns-in-Ok
returns-in-Ok c =
    passed_on (SurveyBy c.args.what c.args.accepted.now c.args.context c.as_slice.result.now) (StatsIn c.args.what c.args.accepted.now c.args.context c.args.input.now) c.tell_all.result
    (λ s out h. items_counted c.as_slice.result.now (rw c.as_slice.ensures.value c.in-Ok.ensures.found) h) c.tell_all.ensures

pub returns-in-Err-Number : goal.returns-in-Err-Number
returns-in-Err-Number c =
    let bad = rw c.in-Err-Number.field-0-is at c.in-Err-Number.ensures.bad in
    bad_items_are c.args.what c.args.accepted.now c.args.context c.args.input.now c.in-Err-Number.number _ _ c.refusal.result bad (c.as_str.ensures.value ∙ c.in_ok-line-in-Err-Number.ensures) (search) c.refusal.ensures
