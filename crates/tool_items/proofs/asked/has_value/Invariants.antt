use Rattle.std.proofs.Common.{◌≡◌, drop}
use Rattle.std.specs.List.{list_any}
use Rattle.tool_items.specs.Asked.{is_of}
use Rattle.tool_items.proofs.asked.has_value.Given as goal

abbrev pub invariant-loop-input : goal.invariant-loop-input
invariant-loop-input l = list_any (is_of l.methods l.method l.format l.name) (drop l.input-index l.inputs) ≡ list_any (is_of l.fn.methods l.fn.method l.fn.format l.fn.name) l.fn.inputs
