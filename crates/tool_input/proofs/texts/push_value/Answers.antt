use Rattle.tool_input.proofs.ItemsSpelled.{value_grown}
use Rattle.tool_input.proofs.texts.push_value.Goals as goal

pub returns : goal.returns
returns c = value_grown c.args.value.now _ _ _ _ c.as_str.ensures c.in_ok-push_named.ensures c.in_ok-push_bits.ensures
