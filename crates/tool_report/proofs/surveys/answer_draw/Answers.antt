use Rattle.tool_report.proofs.SurveysAnswered.{profile_drawn, refused_drawing}
use Rattle.tool_report.proofs.surveys.answer_draw.Goals as goal

pub returns-in-Ok : goal.returns-in-Ok
returns-in-Ok c = profile_drawn _ _ _ c.in-Ok.profile c.draw_profile.result c.as_bytes.ensures.value c.in-Ok.ensures.found c.draw_profile.ensures

pub returns-in_ok-line-in-Err : goal.returns-in_ok-line-in-Err
returns-in_ok-line-in-Err c = refused_drawing _ _ _ _ _ _ c.as_bytes.ensures.value (c.in_ok-line-in-Err.ensures _ c.in-Err.ensures.refused) c.as_str.ensures.value c.refusal.ensures
