use Rattle.std.proofs.Common.{rules}
use Rattle.tool_words.proofs.command_line.with_lost.Goals as goal

pub returns : goal.returns
returns c = c.taking.ensures _ _ c.with_json.ensures (search rules)
