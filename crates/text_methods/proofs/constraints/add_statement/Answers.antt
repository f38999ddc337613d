use Rattle.text_methods.proofs.ConstraintsNumbering.{with_found}
use Rattle.text_methods.proofs.constraints.add_statement.Goals as goal

pub returns-in_ok-add_to-in-Ok : goal.returns-in_ok-add_to-in-Ok
returns-in_ok-add_to-in-Ok c = λ rest whole so. with_found c.args.item.now _ _ c.in-Ok.ensures.means c.in-Ok.ensures.right c.in_ok-add_to-in-Ok.ensures so
