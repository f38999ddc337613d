use Rattle.walk_line.proofs.Flows.{line_is_heard}
use Rattle.walk_line.proofs.laws.line_is_heard.Goals as goal

pub returns : goal.returns
returns c = line_is_heard
