use Rattle.sem_profile.specs.Parameters.{calls}
use Rattle.sem_bounds.proofs.CallersRows.{noted-none, noted-step}
use Rattle.sem_bounds.proofs.callers.note_method.Goals as goal

pub loop-format-init : goal.loop-format-init
loop-format-init c = noted-none c.args.place c.args.rows.now.items

pub loop-format-preserved : goal.loop-format-preserved
loop-format-preserved c =
    noted-step c.args.place calls _ _ _ _ _ _ _ c.as_slice-format-items.ensures c.loop-format-test.true c.format-item.is c.loop-format.invariant
    (c.in_ok-note_format.ensures {u = tt})
