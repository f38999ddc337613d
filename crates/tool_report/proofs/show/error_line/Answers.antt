use Rattle.tool_report.proofs.ProfileLinesListed.{line_of_text, line_of_cause}
use Rattle.tool_report.proofs.show.error_line.Goals as goal

pub returns-in-Text : goal.returns-in-Text
returns-in-Text c = λ top h. line_of_text top _ c.in-Text.fault _ (rw c.in-Text.is at h) c.text_line.ensures

pub returns-in-Profile : goal.returns-in-Profile
returns-in-Profile c = λ top h. line_of_cause top _ c.in-Profile.fault _ (rw c.in-Profile.is at h) c.cause_line.ensures
