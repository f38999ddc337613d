use Rattle.tool_items.proofs.SumsLaws.{insides_add_up}
use Rattle.tool_items.proofs.laws.insides_add_up.Goals as goal

pub returns : goal.returns
returns c = insides_add_up
