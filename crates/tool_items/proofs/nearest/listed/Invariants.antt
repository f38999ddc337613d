use Rattle.std.specs.Prelude.{◌≡◌, ◌++◌}
use Rattle.tool_items.proofs.nearest.listed.Given as goal

abbrev pub invariant-loop-step : goal.invariant-loop-step
invariant-loop-step l = l.entries.items ++ l.step-iterator ≡ l.steps.counts.entries
