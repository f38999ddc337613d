use Rattle.std.proofs.Common.{◌≡◌, ◌++◌, map}
use Rattle.std.specs.Prelude.{flat_map}
use Rattle.tool_json.specs.MessageObjects.{element}
use Rattle.tool_json.proofs.messages.add_lines.Given as goal

abbrev pub invariant-loop-line : goal.invariant-loop-line
invariant-loop-line l = l.object ≡ l.fn.object ++ flat_map element (map (λ x. x.now) l.yielded)
