use Rattle.std.proofs.Common.{◌≡◌, ◌++◌, drop}
use Rattle.std.specs.Prelude.{flat_map, string_bytes}
use Rattle.tool_loss.specs.Loss.{head, use_line}
use Rattle.tool_loss.proofs.loss.push_case.Given as goal

abbrev pub invariant-loop-unserved : goal.invariant-loop-unserved
invariant-loop-unserved l =
    string_bytes l.text ++ flat_map use_line (drop l.unserved-index l.unserved-items) ≡ (string_bytes l.fn.text ++ head l.methods l.top l.case) ++ flat_map use_line l.unserved-items
