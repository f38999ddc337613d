use Rattle.std.proofs.Common.{rules, append_assoc}
use Rattle.tool_items.proofs.why.attribute_name.Goals as goal

pub returns : goal.returns
returns c = search (rules, append_assoc)
