use Rattle.std.proofs.Common.{◌≡◌, [], replicate}
use Rattle.walk_line.proofs.flow.no_contexts.Given as goal

abbrev pub invariant-loop-i : goal.invariant-loop-i
invariant-loop-i l = l.contexts.items ≡ replicate l._i []
