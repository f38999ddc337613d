use Rattle.std.proofs.Common.{refl, ◌≡◌, subst, arith}
use Rattle.tool_items.proofs.TrendsGrowing.{Nones, nones_end, nones_more}
use Rattle.tool_items.proofs.trends.Trends.new.Goals as goal

pub loop-preserved : goal.loop-preserved
loop-preserved c = nones_more c.loop.fields.items _ c.none.result c.loop.counter c.in_ok-push.ensures.items c.none.ensures c.loop.invariant

pub returns : goal.returns
returns c =
    let all : c.loop.counter ≡ c.args.count = omega (arith, c.loop-test.false, c.loop.auto.counter-end) in
    nones_end _ c.args.count refl (subst (λ n. Nones c.loop.fields.items n) all c.loop.invariant)
