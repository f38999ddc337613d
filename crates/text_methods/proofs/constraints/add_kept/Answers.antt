use Rattle.std.proofs.Common.{sym}
use Rattle.text_methods.proofs.ConstraintsNumbering.{with_kept}
use Rattle.text_methods.proofs.constraints.add_kept.Goals as goal

pub returns-in_ok-add_shared-in-Some : goal.returns-in_ok-add_shared-in-Some
returns-in_ok-add_shared-in-Some c = λ rest whole so.
    with_kept c.args.item.now c.in-Some.constraints.now _ (c.requires _ (sym c.in-Some.ensures)) (rw c.as_slice.ensures at c.in_ok-add_shared-in-Some.ensures) so
