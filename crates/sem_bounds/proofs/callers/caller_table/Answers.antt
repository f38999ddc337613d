use Rattle.std.proofs.Common.{◌∙◌, refl}
use Rattle.sem_bounds.proofs.CallersRows.{none-yet, callers-step}
use Rattle.sem_bounds.proofs.callers.caller_table.Goals as goal

pub loop-method-init : goal.loop-method-init
loop-method-init c = (refl, c.in_ok-rows.ensures {u = tt} ∙ none-yet 0 c.args.methods.now)

pub loop-method-preserved : goal.loop-method-preserved
loop-method-preserved c =
    callers-step c.args.methods.now _ _ _ _ _ c.loop-method-test.true c.method-item.is c.loop-method.invariant (c.in_ok-note_method.ensures {u = tt})
