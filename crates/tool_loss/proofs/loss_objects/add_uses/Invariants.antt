use Rattle.std.specs.Prelude.{◌≡◌, ◌++◌, drop}
use Rattle.tool_loss.specs.LossObjects.{uses_tokens}
use Rattle.tool_loss.proofs.loss_objects.add_uses.Given as goal

abbrev pub invariant-loop-unserved : goal.invariant-loop-unserved
invariant-loop-unserved l = l.object ++ uses_tokens (drop l.unserved-index l.uses) ≡ l.fn.object ++ uses_tokens l.uses
