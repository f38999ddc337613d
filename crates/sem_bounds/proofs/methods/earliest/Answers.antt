use Rattle.sem_bounds.proofs.MethodsEarliest.{faults-judged}
use Rattle.sem_bounds.proofs.methods.earliest.Goals as goal

pub returns : goal.returns
returns c = faults-judged c.args.extent c.args.methods.now c.args.table.now _ _ _ c.requires c.widest.ensures (c.in_ok-fault.ensures {u = tt}) c.earlier.ensures
