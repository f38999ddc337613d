use Rattle.std.proofs.Common.{◌≡◌, ℕ, suc, ◌-◌, sym, ap, ◌∙◌, arith}
use Rattle.std.proofs.lemmas.Result.{err_from_is_err_and}
use Rattle.text_tree.specs.Rules.{all}
use Rattle.text_tree.specs.Expr.{prim}
use Rattle.text_tree.specs.Operators.{operator_within}
use Rattle.text_tree.proofs.Exprs.{climb_from, prim_zero, prim_more, deeper, operation_shorter, tiers_climb, tiers_err, climb_all, loop_stops, loop_on, loop_fails, binds_some, within_some}
use Rattle.text_tree.proofs.expr.+expr.Goals as goal

pub prim-returns-then-depth-eq0 : goal.prim-returns-then-depth-eq0
prim-returns-then-depth-eq0 t c = let none : c.args.depth ≡ 0 = omega arith in rw (none, prim_zero all c.args.progress) c.flat.ensures

pub prim-returns-else-depth-eq0 : goal.prim-returns-else-depth-eq0
prim-returns-else-depth-eq0 t c =
    rw (deeper (λ n. prim all n c.args.progress c.args.tokens.now) c.args.depth (omega arith), prim_more all (c.args.depth - 1) c.args.progress) c.nested.ensures

pub climb-loop-found-init : goal.climb-loop-found-init
climb-loop-found-init t c =
    let same : suc c.args.tier - 1 ≡ c.args.tier = omega arith in
    ap (λ (n : ℕ). climb_from all c.args.depth n 1 c.args.first c.args.tokens.now) same ∙ climb_all all c.args.depth c.args.tier c.args.first c.args.tokens.now

pub climb-operation-requires : goal.climb-operation-requires
climb-operation-requires t c =
    let w = within_some c.loop-found.least c.args.tier c.peek.result c.in-Some.found (sym c.operator.ensures ∙ c.in-Some.is) in
    let some = binds_some c.in-Some.found in
    (omega (arith, w.0, w.1, some, c.binds-next.ensures, c.requires), omega (arith, w.0, w.1, some, c.binds-next.ensures, c.requires))

pub climb-returns-in_err-left : goal.climb-returns-in_err-left
climb-returns-in_err-left t c =
    let p = err_from_is_err_and c.from_residual.result c.from_residual.ensures.1 in
    rw (p.1, p.2, ← c.loop-found.invariant)
    (loop_fails all c.args.depth c.args.tier c.loop-found.least c.binds-next.result c.loop-found.left c.loop-found.tokens c.peek.result c.in-Some.found c.in_err-left.field-0.0
    c.binds-next.ensures c.peek.ensures (sym c.operator.ensures ∙ c.in-Some.is) c.in_err-left.ensures)

pub climb-loop-found-smaller : goal.climb-loop-found-smaller
climb-loop-found-smaller t c =
    operation_shorter all c.args.depth (c.binds-next.result - 1) c.loop-found.left c.loop-found.tokens c.in-Some.found c.operation.new.tokens c.in_ok-left.left c.in_ok-left.ensures

pub climb-loop-found-preserved : goal.climb-loop-found-preserved
climb-loop-found-preserved t c =
    sym (loop_on all c.args.depth c.args.tier c.loop-found.least c.binds-next.result c.max-least.result c.loop-found.left c.in_ok-left.left c.loop-found.tokens c.operation.new.tokens c.peek.result c.in-Some.found
    c.binds-next.ensures c.max-least.ensures c.peek.ensures (sym c.operator.ensures ∙ c.in-Some.is) c.in_ok-left.ensures)
    ∙ c.loop-found.invariant

pub climb-returns : goal.climb-returns
climb-returns t c =
    sym c.loop-found.invariant
    ∙ loop_stops all c.args.depth c.args.tier c.loop-found.least c.loop-found.left c.loop-found.tokens
    (ap (λ next. operator_within c.loop-found.least c.args.tier next) (sym c.peek.ensures) ∙ (sym c.operator.ensures ∙ c.in_default.is))

pub tiers-returns-in_err-first : goal.tiers-returns-in_err-first
tiers-returns-in_err-first t c =
    let p = err_from_is_err_and c.from_residual.result c.from_residual.ensures.1 in
    rw (p.1, p.2)
    (tiers_err all c.args.depth c.args.tier c.args.progress c.args.tokens.now c.in_err-first.field-0.0 c.in_err-first.ensures)

pub tiers-returns : goal.tiers-returns
tiers-returns t c =
    rw (tiers_climb all c.args.depth c.args.tier c.args.progress c.args.tokens.now c.prim.new.tokens c.in_ok-first.first c.in_ok-first.ensures) c.climb.ensures
