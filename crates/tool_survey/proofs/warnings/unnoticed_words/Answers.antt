use Rattle.std.proofs.Common.{rules}
use Rattle.tool_survey.proofs.warnings.unnoticed_words.Goals as goal

pub returns : goal.returns
returns c = search rules
