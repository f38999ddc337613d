use Rattle.std.proofs.Common.{◌∙◌}
use Rattle.tool_report.proofs.SurveysAnswered.{bad_context_is, linted_from}
use Rattle.tool_report.proofs.surveys.lint_by.Goals as goal

pub returns-in-Ok : goal.returns-in-Ok
returns-in-Ok c = linted_from c.args.octets.now c.args.profile.now c.args.parts.now.context c.in-Ok.context c.lint_profile.result c.in-Ok.ensures.found c.lint_profile.ensures

pub returns-in_ok-line-in-Err-Number : goal.returns-in_ok-line-in-Err-Number
returns-in_ok-line-in-Err-Number c =
    bad_context_is c.args.octets.now c.args.profile.now c.args.parts.now.context _ c.in-Err-Number.number _ _ c.refusal.result c.in-Err-Number.ensures.bad c.in-Err-Number.field-0-is (c.as_str.ensures.value ∙ c.in_ok-line-in-Err-Number.ensures) (search)
    c.refusal.ensures
