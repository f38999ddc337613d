use Rattle.tool_report.proofs.ProfileLinesListed.{all_listed, refused_listing}
use Rattle.tool_report.proofs.show.answer_listing.Goals as goal

pub returns-in_ok-output-in-Ok : goal.returns-in_ok-output-in-Ok
returns-in_ok-output-in-Ok c = all_listed _ _ _ c.in-Ok.profile c.in_ok-output-in-Ok.output c.as_bytes.ensures.value c.in-Ok.ensures.found c.in_ok-output-in-Ok.ensures

pub returns-in_ok-line-in-Err : goal.returns-in_ok-line-in-Err
returns-in_ok-line-in-Err c = refused_listing _ _ _ _ _ _ c.as_bytes.ensures.value (c.in_ok-line-in-Err.ensures _ c.in-Err.ensures.refused) c.as_str.ensures.value c.refusal.ensures
