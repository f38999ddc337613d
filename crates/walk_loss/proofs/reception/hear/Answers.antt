use Rattle.std.proofs.Common.{subst}
use Rattle.sem_bits.specs.Cursor.{Place}
use Rattle.walk_engine.specs.Reading.{IsRefused}
use Rattle.walk_loss.proofs.reception.hear.Goals as goal

pub returns-in-Err-Refused : goal.returns-in-Err-Refused
returns-in-Err-Refused c = (
  subst (λ (p : Place). IsRefused c.args.accepted.now c.args.context.now p.left) c.new-cursor.ensures (rw c.in-Err-Refused.field-0-is at c.in-Err-Refused.ensures.fault),
  λ e. absurd (cc),
)
