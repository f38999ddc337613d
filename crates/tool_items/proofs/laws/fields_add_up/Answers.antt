use Rattle.tool_items.proofs.CountsAdding.{fields_add_up}
use Rattle.tool_items.proofs.laws.fields_add_up.Goals as goal

pub returns : goal.returns
returns c = fields_add_up
