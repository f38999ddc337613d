use Rattle.std.specs.Prelude.{map, drop}
use Rattle.tool_items.specs.Steps.{AddSteps, step}
use Rattle.tool_items.specs.declared.steps.Steps.{Steps}
use Rattle.tool_items.proofs.steps.Steps.add_from.Given as goal

abbrev pub invariant-loop-from : goal.invariant-loop-from
invariant-loop-from l = (new : Steps) → AddSteps (map (λ r. step r l.later) (drop l.from-index l.earlier)) l.self new → AddSteps (map (λ r. step r l.later) l.earlier) l.fn.self new
