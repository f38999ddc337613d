use Rattle.std.specs.Prelude.{◌≡◌, ◌++◌, drop}
use Rattle.tool_items.specs.AdviceObjects.{values_tokens}
use Rattle.tool_items.proofs.advice_objects.add_kept.Given as goal

abbrev pub invariant-loop-value : goal.invariant-loop-value
invariant-loop-value l = l.object ++ values_tokens (drop l.value-index l.values) ≡ l.fn.object ++ values_tokens l.values
