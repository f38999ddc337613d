use Rattle.tool_report.proofs.SurveysAnswered.{objects_drawn, refused_objects}
use Rattle.tool_report.proofs.surveys.draw_objects.Goals as goal

pub returns-in-Ok : goal.returns-in-Ok
returns-in-Ok c = objects_drawn _ _ _ c.in-Ok.profile c.drawn.result c.as_bytes.ensures.value c.in-Ok.ensures.found c.drawn.ensures.status c.drawn.ensures.output

pub returns-in_ok-line-in-Err : goal.returns-in_ok-line-in-Err
returns-in_ok-line-in-Err c = refused_objects _ _ _ _ _ _ c.as_bytes.ensures.value (c.in_ok-line-in-Err.ensures _ c.in-Err.ensures.refused) c.as_str.ensures.value c.refusal.ensures
