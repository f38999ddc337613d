use Rattle.std.proofs.Common.{◌∙◌, ap}
use Rattle.sem_expr.specs.declared.ranges.Ranges.{Ranges}
use Rattle.sem_profile.specs.BoundsFaults.{format_fault}
use Rattle.sem_bounds.proofs.faults.judged.Goals as goal

pub returns : goal.returns
returns c = c.format_fault.ensures ∙ ap (λ (r : Ranges). format_fault c.args.extent c.args.format.now c.args.sizes.now r) (c.in_ok-ranges.ensures {u = tt})
