use Rattle.std.proofs.Common.{◌≡◌, ◌++◌, drop}
use Rattle.std.specs.Prelude.{flat_map, string_bytes}
use Rattle.tool_items.specs.Asked.{asked_word}
use Rattle.tool_items.proofs.asked.asked_words.Given as goal

abbrev pub invariant-loop-value : goal.invariant-loop-value
invariant-loop-value l = string_bytes l.text ++ flat_map (asked_word l.methods l.method l.format l.looked_at) (drop l.value-index l.asked) ≡ flat_map (asked_word l.methods l.method l.format l.looked_at) l.asked
