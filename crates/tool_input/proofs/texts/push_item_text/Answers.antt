use Rattle.tool_input.proofs.ItemsSpelled.{item_grown}
use Rattle.tool_input.proofs.texts.push_item_text.Goals as goal

pub returns : goal.returns
returns c = item_grown c.args.item.now _ _ _ _ c.in_ok-push_bits.ensures c.as_slice.ensures c.in_ok-push_values.ensures
