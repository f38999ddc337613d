use Rattle.text_methods.proofs.KeptLemmas.{said_here}
use Rattle.text_methods.proofs.kept.kept_constraints.Goals as goal

pub returns-in_ok-found-in-Ok : goal.returns-in_ok-found-in-Ok
returns-in_ok-found-in-Ok c =
    rw c.in_ok-found-in-Ok.ensures
    (said_here c.args.scope.now c.args.item.now _ c.names_field.result c.names_field.ensures c.if-not-names_field.false c.in-Ok.ensures.means c.in-Ok.ensures.right)
