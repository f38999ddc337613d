use Rattle.std.proofs.Common.{sym, ◌∙◌}
use Rattle.sem_lint.proofs.NeedsGrowing.{served_by_entry}
use Rattle.sem_lint.proofs.growth.is_served.Goals as goal

pub returns-then-needs_reference : goal.returns-then-needs_reference
returns-then-needs_reference c =
    served_by_entry c.args.ground.now c.args.known.now.flags c.args.path.now c.args.field.now c.may_be.result (sym c.needs_reference.ensures ∙ c.if-needs_reference.true) (rw c.as_str-name.ensures at c.may_be.ensures)
