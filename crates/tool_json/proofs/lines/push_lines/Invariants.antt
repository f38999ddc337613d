use Rattle.std.proofs.Common.{◌≡◌, ◌++◌, map}
use Rattle.std.specs.Prelude.{flat_map, string_bytes}
use Rattle.tool_json.specs.Entries.{before_heading, has_heading}
use Rattle.tool_json.specs.Lines.{line_object}
use Rattle.tool_json.proofs.lines.push_lines.Given as goal

abbrev pub invariant-loop-line : goal.invariant-loop-line
invariant-loop-line l = (l.found ≡ has_heading (map (λ x. x.now) l.yielded)) × (string_bytes l.output ≡ string_bytes l.fn.output ++ flat_map (line_object l.telling) (before_heading (map (λ x. x.now) l.yielded)))
