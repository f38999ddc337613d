use Rattle.tool_survey.proofs.WarningsLemmas.{lines_counted, no_lines}
use Rattle.tool_survey.proofs.warnings.candidate_lines.Goals as goal

pub returns-in-Ok : goal.returns-in-Ok
returns-in-Ok c = lines_counted _ _ c.in-Ok.certificate c.counted_lines.result c.in-Ok.ensures.proved c.counted_lines.ensures

pub returns-in-Err : goal.returns-in-Err
returns-in-Err c = no_lines _ _ c.in-Err.unproved c.no_lines.result c.in-Err.ensures.unproved c.no_lines.ensures.empty c.no_lines.ensures.refused
