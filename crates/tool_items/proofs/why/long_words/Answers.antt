use Rattle.std.proofs.Common.{rules, append_assoc}
use Rattle.tool_items.proofs.why.long_words.Goals as goal

pub returns : goal.returns
returns c = search (rules, append_assoc)
