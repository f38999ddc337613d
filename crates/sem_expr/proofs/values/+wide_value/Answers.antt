use Rattle.std.proofs.Common.{◌∙◌, ap}
use Rattle.sem_expr.specs.Values.{val}
use Rattle.sem_expr.proofs.RangedLie.{calculable_at}
use Rattle.sem_expr.proofs.values.+wide_value.Goals as goal

pub calculate-requires : goal.calculate-requires
calculate-requires g t c =
    let a = g.V.Valuation.assignment c.args.known.now in
    let e = c.in-Binary in
    calculable_at a e.field-0 e.operator _ e.left.value _ e.right.value c.args.expr.now c.in_ok-left-in-Binary.left c.in_ok-right-in-Binary.right e.is c.requires.ranged
    (c.in_ok-left-in-Binary.ensures {u = tt} ∙ ap (val a) c.deref.ensures) (c.in_ok-right-in-Binary.ensures {u = tt} ∙ ap (val a) c.deref-in-Binary.ensures)
