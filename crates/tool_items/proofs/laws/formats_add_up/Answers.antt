use Rattle.tool_items.proofs.SumsLaws.{formats_add_up}
use Rattle.tool_items.proofs.laws.formats_add_up.Goals as goal

pub returns : goal.returns
returns c = formats_add_up
