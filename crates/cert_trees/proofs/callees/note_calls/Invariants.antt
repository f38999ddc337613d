use Rattle.std.proofs.Common.{◌≡◌, ◌++◌, drop}
use Rattle.std.specs.List.{filter_map}
use Rattle.cert_rules.specs.Counts.{callee}
use Rattle.cert_trees.proofs.callees.note_calls.Given as goal

abbrev pub invariant-loop-field : goal.invariant-loop-field
invariant-loop-field l = l.row ++ filter_map (λ d. callee d.encoding) (drop l.field-index l.fields) ≡ l.fn.row ++ filter_map (λ d. callee d.encoding) l.fields
