use Rattle.std.proofs.Common.{◌∙◌, ap, sym, length}
use Rattle.tool_items.proofs.CountsAdding.{side_there}
use Rattle.tool_items.proofs.counts.side_length.Goals as goal

pub returns-in-Some : goal.returns-in-Some
returns-in-Some c = c.len.ensures.value ∙ sym (ap length (side_there c.args.filling.now c.args.place _ c.in-Some.ensures.value))

pub returns-in-None : goal.returns-in-None
returns-in-None c = sym (ap length (side_there c.args.filling.now c.args.place _ c.in-None.ensures.value))
