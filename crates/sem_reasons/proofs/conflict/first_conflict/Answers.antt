use Rattle.sem_reasons.proofs.FieldsClear.{agrees_is}
use Rattle.sem_reasons.proofs.conflict.first_conflict.Goals as goal

pub returns : goal.returns
returns c =
    agrees_is c.args.sighted.now c.args.coded.now c.requires.sighted c.requires.coded (rw c.in_default.is at c.in_ok-reason.ensures) (rw c.in_default-2.is at c.in_ok-reason-2.ensures)
    (rw c.in_default-3.is at c.in_ok-reason-3.ensures) (rw c.in_default-4.is at c.in_ok-reason-4.ensures)
