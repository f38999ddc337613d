use Rattle.sem_profile.specs.Parameters.{is_call}
use Rattle.sem_bounds.proofs.CallersRows.{noted-none, noted-step}
use Rattle.sem_bounds.proofs.callers.note_format.Goals as goal

pub loop-field-init : goal.loop-field-init
loop-field-init c = noted-none c.args.place c.args.rows.now.items

pub loop-field-preserved : goal.loop-field-preserved
loop-field-preserved c =
    noted-step c.args.place (λ k d. is_call k d.encoding) _ _ _ _ _ _ _ c.as_slice-field-items.ensures c.loop-field-test.true c.field-item.is c.loop-field.invariant
    (rw c.get.ensures at (c.in_ok-note_call.ensures {u = tt}))
