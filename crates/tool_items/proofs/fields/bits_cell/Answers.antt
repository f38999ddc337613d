use Rattle.std.proofs.Common.{◌∙◌}
use Rattle.tool_input.proofs.BitTextsSpelled.{text_is}
use Rattle.tool_items.proofs.fields.bits_cell.Goals as goal

pub returns : goal.returns
returns c = c.new.ensures ∙ text_is _ _ c.in_ok-text.ensures
