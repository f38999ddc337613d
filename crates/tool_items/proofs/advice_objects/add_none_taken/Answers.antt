use Rattle.std.proofs.Common.{rules, append_assoc}
use Rattle.tool_items.proofs.advice_objects.add_none_taken.Goals as goal

pub returns : goal.returns
returns c = search (rules, append_assoc)
