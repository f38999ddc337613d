use Rattle.sem_profile.specs.Methods.{IsShortAt, IsWide}
use Rattle.sem_profile.proofs.FaultsFolding.{judged-next}
use Rattle.sem_bounds.proofs.methods.widest.Goals as goal

pub loop-index-preserved : goal.loop-index-preserved
loop-index-preserved c =
    let methods = c.args.methods.now in
    let table = c.args.table.now in
    rw c.earlier-found.ensures (judged-next (IsShortAt methods table) (IsWide methods table) c.loop-index.index c.loop-index.invariant c.too_wide.ensures)
