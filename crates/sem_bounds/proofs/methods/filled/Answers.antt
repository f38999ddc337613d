use Rattle.std.proofs.Common.{sym, subst, List, arith}
use Rattle.std.proofs.lemmas.Option.{slice_get-get_or, slice_get_within}
use Rattle.sem_profile.specs.declared.profile.MethodSizes.{MethodSizes}
use Rattle.sem_profile.specs.Methods.{HasSizes, SumsAreNumbers}
use Rattle.sem_bounds.proofs.MethodsTables.{sized-more}
use Rattle.sem_bounds.proofs.WeightsLemmas.{sums-are-numbers}
use Rattle.sem_bounds.proofs.methods.filled.Goals as goal

pub method_sizes-requires : goal.method_sizes-requires
method_sizes-requires c =
    let order = c.args.order.now in
    let place = slice_get-get_or order c.loop-index.index-index 0 c.loop-index-test.true in
    subst (λ (t : List MethodSizes). SumsAreNumbers t c.in-Some.method.now) (sym c.as_slice.ensures.value)
    (sums-are-numbers c.args.methods.now order c.loop-index.index-index _ c.in-Some.method.now c.loop-index.table.items c.requires.order c.requires.light c.loop-index.invariant place
    (sym (c.in-Some.ensures {u = tt})))

pub set_sizes-requires : goal.set_sizes-requires
set_sizes-requires c = let within = slice_get_within c.args.methods.now _ _ (sym (c.in-Some.ensures {u = tt})) in omega (arith, c.loop-index.invariant.each)

pub loop-index-preserved : goal.loop-index-preserved
loop-index-preserved c =
    let order = c.args.order.now in
    let place = slice_get-get_or order c.loop-index.index-index 0 c.loop-index-test.true in
    rw c.set_sizes.ensures (sized-more c.args.methods.now order c.loop-index.index-index _ c.in-Some.method.now c.loop-index.table.items c.in_ok-sizes.sizes c.requires.order place
    (sym (c.in-Some.ensures {u = tt})) c.loop-index.invariant
    (subst (λ (t : List MethodSizes). HasSizes t c.in-Some.method.now c.in_ok-sizes.sizes) c.as_slice.ensures.value (c.in_ok-sizes.ensures {u = tt})))
