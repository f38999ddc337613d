use Rattle.std.proofs.Common.{rules, append_assoc}
use Rattle.tool_run.proofs.stats.row_text.Goals as goal

pub returns : goal.returns
returns c = search (rules, append_assoc)
