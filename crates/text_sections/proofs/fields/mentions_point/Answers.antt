use Rattle.text_sections.proofs.MentionsPointing.{mentions_point}
use Rattle.text_sections.proofs.fields.mentions_point.Goals as goal

pub returns : goal.returns
returns c = mentions_point
