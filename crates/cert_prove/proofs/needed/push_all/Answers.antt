use Rattle.std.proofs.Common.{subst}
use Rattle.std.proofs.lemmas.List.{take_all}
use Rattle.cert_rules.specs.Facts.{inputs_of_all}
use Rattle.cert_prove.specs.Needed.{Adds}
use Rattle.cert_prove.proofs.NeededWritten.{take_more_is, expr_more}
use Rattle.cert_prove.proofs.needed.push_all.Goals as goal

pub loop-expr-preserved : goal.loop-expr-preserved
loop-expr-preserved c =
    let xs = c.args.exprs.now in
    let i = c.loop-expr.expr-index in
    let d = c.expr-item.result in
    expr_more c.args.format.now xs i d c.args.facts.now c.loop-expr.facts c.push_inputs.new.facts c.args.wholes.now c.loop-expr.wholes c.push_inputs.new.wholes (take_more_is xs i d c.loop-expr-test.true c.expr-item.is) c.loop-expr.invariant c.in_ok-push_inputs.ensures

pub returns : goal.returns
returns c =
    let l = c.loop-expr in
    subst (λ z. Adds c.args.format.now (inputs_of_all c.args.format.now z) c.args.facts.now c.args.wholes.now l.facts l.wholes) (take_all l.expr-index c.args.exprs.now c.loop-expr-test.false) l.invariant
