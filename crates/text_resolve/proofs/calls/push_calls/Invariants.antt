use Rattle.std.proofs.Common.{◌≡◌, ◌++◌, drop}
use Rattle.std.specs.List.{filter_map}
use Rattle.text_resolve.specs.Calls.{call_of}
use Rattle.text_resolve.proofs.calls.push_calls.Given as goal

abbrev pub invariant-loop-item : goal.invariant-loop-item
invariant-loop-item l = l.found ++ filter_map (call_of l.text l.methods) (drop l.item-index l.item-items) ≡ l.initial.found ++ filter_map (call_of l.text l.methods) l.item-items
