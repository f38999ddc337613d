use Rattle.std.proofs.Common.{Some, ap, sym, ◌∙◌}
use Rattle.text_tree.proofs.LoneOperands.{lone_number, lone_name}
use Rattle.text_tree.proofs.expr.whole.Goals as goal

pub returns-in_ok-take-in-Some-Number : goal.returns-in_ok-take-in-Some-Number
returns-in_ok-take-in-Some-Number c =
    lone_number _ _ _ _ (sym c.lone.ensures ∙ (c.in-Some-Number.is ∙ ap Some c.in-Some-Number.field-0-is)) c.in_ok-take-in-Some-Number.ensures

pub returns-in_ok-take-in-Some-Name : goal.returns-in_ok-take-in-Some-Name
returns-in_ok-take-in-Some-Name c =
    lone_name _ _ _ (sym c.lone.ensures ∙ (c.in-Some-Name.is ∙ ap Some c.in-Some-Name.field-0-is)) c.in_ok-take-in-Some-Name.ensures
