use Rattle.std.proofs.Common.{FitsSigned, rules}
use mir.Syntax.{w128}
use Rattle.sem_expr.proofs.RulesFitting.{corners, product_none, product_at, least, greatest, product_some}
use Rattle.sem_expr.proofs.interval.product.Goals as goal

pub returns-in_err-lowest : goal.returns-in_err-lowest
returns-in_err-lowest c =
    let i = c.args.left in
    let j = c.args.right in
    product_none c.from_residual.result i j i.from j.from (search rules) (search rules) (corners i j).lowest (c.in_err-lowest.ensures {u = tt}) c.from_residual.ensures

pub returns-in_err-low : goal.returns-in_err-low
returns-in_err-low c =
    let i = c.args.left in
    let j = c.args.right in
    product_none c.from_residual-in_err-low.result i j i.from j.to (search rules) (search rules) (corners i j).low (c.in_err-low.ensures {u = tt}) c.from_residual-in_err-low.ensures

pub returns-in_err-high : goal.returns-in_err-high
returns-in_err-high c =
    let i = c.args.left in
    let j = c.args.right in
    product_none c.from_residual-in_err-high.result i j i.to j.from (search rules) (search rules) (corners i j).high (c.in_err-high.ensures {u = tt}) c.from_residual-in_err-high.ensures

pub returns-in_err-highest : goal.returns-in_err-highest
returns-in_err-highest c =
    let i = c.args.left in
    let j = c.args.right in
    product_none c.from_residual-in_err-highest.result i j i.to j.to (search rules) (search rules) (corners i j).highest (c.in_err-highest.ensures {u = tt}) c.from_residual-in_err-highest.ensures

pub returns : goal.returns
returns c =
    let i = c.args.left in
    let j = c.args.right in
    let f1 : FitsSigned w128 i.from = search rules in
    let f2 : FitsSigned w128 i.to = search rules in
    let f3 : FitsSigned w128 j.from = search rules in
    let f4 : FitsSigned w128 j.to = search rules in
    let p = product_at i.from j.from c.in_ok-lowest.lowest f1 f3 c.in_ok-lowest.ensures in
    let q = product_at i.from j.to c.in_ok-low.low f1 f4 c.in_ok-low.ensures in
    let r = product_at i.to j.from c.in_ok-high.high f2 f3 c.in_ok-high.ensures in
    let s = product_at i.to j.to c.in_ok-highest.highest f2 f4 c.in_ok-highest.ensures in
    product_some i j c.in_ok-lowest.lowest c.in_ok-low.low c.in_ok-high.high c.in_ok-highest.highest _ _ p q r s
    (least c.in_ok-lowest.lowest c.in_ok-low.low c.in_ok-high.high c.in_ok-highest.highest c.min.result c.min-2.result c.min-3.result p.fits q.fits r.fits s.fits
    c.min.ensures.value c.min-2.ensures.value c.min-3.ensures.value)
    (greatest c.in_ok-lowest.lowest c.in_ok-low.low c.in_ok-high.high c.in_ok-highest.highest c.max.result c.max-2.result c.max-3.result p.fits q.fits r.fits s.fits
    c.max.ensures.value c.max-2.ensures.value c.max-3.ensures.value)
