use Rattle.std.proofs.Common.{◌≡◌, ◌++◌, drop}
use Rattle.std.specs.Prelude.{flat_map, string_bytes}
use Rattle.tool_items.specs.Why.{false_words, figure_words}
use Rattle.tool_items.proofs.why.false_words.Given as goal

abbrev pub invariant-loop-figure : goal.invariant-loop-figure
invariant-loop-figure l = string_bytes l.text ++ flat_map (figure_words l.methods l.method l.format) (drop l.figure-index l.figures) ≡ false_words l.methods l.method l.format l.figures
