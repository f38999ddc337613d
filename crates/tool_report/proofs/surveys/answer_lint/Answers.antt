use Rattle.tool_report.proofs.SurveysAnswered.{profile_linted, refused_lint}
use Rattle.tool_report.proofs.surveys.answer_lint.Goals as goal

pub returns-in-Ok : goal.returns-in-Ok
returns-in-Ok c = profile_linted _ _ _ _ c.in-Ok.profile c.lint_by.result c.as_bytes.ensures.value c.in-Ok.ensures.found c.lint_by.ensures

pub returns-in_ok-line-in-Err : goal.returns-in_ok-line-in-Err
returns-in_ok-line-in-Err c = refused_lint _ _ _ _ _ _ _ c.as_bytes.ensures.value (c.in_ok-line-in-Err.ensures _ c.in-Err.ensures.refused) c.as_str.ensures.value c.refusal.ensures
