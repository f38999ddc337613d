use Rattle.std.proofs.Common.{◌≡◌, ◌++◌, drop}
use Rattle.std.specs.Prelude.{flat_map, string_bytes}
use Rattle.tool_loss.specs.Reach.{lack_text}
use Rattle.tool_loss.proofs.reach.push_lacks.Given as goal

abbrev pub invariant-loop-lack : goal.invariant-loop-lack
invariant-loop-lack l =
    string_bytes l.output ++ flat_map (lack_text l.place.line l.place.column l.methods l.top) (drop l.lack-index l.lacks)
    ≡ string_bytes l.fn.output ++ flat_map (lack_text l.place.line l.place.column l.methods l.top) l.lacks
