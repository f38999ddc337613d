use Rattle.std.proofs.Common.{◌≡◌, false}
use Rattle.std.specs.Prelude.{replicate}
use Rattle.tool_survey.proofs.meant.none_used.Given as goal

abbrev pub invariant-loop : goal.invariant-loop
invariant-loop l = l.used.items ≡ replicate l.counter false
