use Rattle.std.proofs.Common.{◌≡◌, map}
use Rattle.std.specs.Prelude.{flat_map, string_bytes}
use Rattle.tool_json.specs.MessageObjects.{line_json}
use Rattle.tool_json.proofs.messages.messages_json.Given as goal

abbrev pub invariant-loop-line : goal.invariant-loop-line
invariant-loop-line l = string_bytes l.output ≡ flat_map (line_json l.telling) (map (λ x. x.now) l.yielded)
