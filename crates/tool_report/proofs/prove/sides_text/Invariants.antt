use Rattle.std.proofs.Common.{◌≡◌, ◌++◌, drop}
use Rattle.std.specs.Prelude.{string_bytes, flat_map}
use Rattle.tool_report.specs.Prove.{side_words}
use Rattle.tool_report.proofs.prove.sides_text.Given as goal

abbrev pub invariant-loop-side : goal.invariant-loop-side
invariant-loop-side l = string_bytes l.output ++ flat_map (side_words l.methods l.method l.format) (drop l.side-index l.sides) ≡ flat_map (side_words l.methods l.method l.format) l.sides
