use Rattle.std.proofs.Common.{refl}
use Rattle.walk_engine.proofs.SendingFirst.{written_for}
use Rattle.walk_engine.proofs.sender.written.Goals as goal

pub returns-then-has_it : goal.returns-then-has_it
returns-then-has_it c =
    written_for c.args.accepted.now c.args.context.now c.args.item.now c.profile.result.now c.keeps-2.ensures c.profile.ensures c.keeps.ensures
    c.args.number c.in-Some.written (rw c.in-Some.is at c.in_ok-written.ensures) (c.if-has_it.ensures refl)
