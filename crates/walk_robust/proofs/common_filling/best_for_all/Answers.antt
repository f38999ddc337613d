use Rattle.std.proofs.Common.{rules, subst, arith}
use Rattle.walk_engine.specs.Writing.{IsPackedFrom}
use Rattle.walk_robust.proofs.Searches.{below_count, best_of_all}
use Rattle.walk_robust.proofs.common_filling.best_for_all.Goals as goal

pub returns-then-fits_all-clause-packed : goal.returns-then-fits_all-clause-packed
returns-then-fits_all-clause-packed c =
    best_of_all c.args.accepted.now c.args.own.now c.args.others.now c.args.item.now c.profile-profile.result.now c.keeps-2.ensures c.profile-profile.ensures c.keeps.ensures
    c.loop-found.from c.in-Ok.found c.loop-found.invariant (subst (λ z. IsPackedFrom c.args.accepted.now z c.args.item.now c.loop-found.from c.in-Ok.found) c.last_of-sought.ensures c.in-Ok.ensures.packed)
    (c.in_ok-fits_all-in-Ok.ensures.0 c.if-fits_all.true)

pub overflow_add-from : goal.overflow_add-from
overflow_add-from c =
    (search (
      rules,
      below_count c.args.accepted.now c.args.own.now c.args.others.now c.args.item.now c.profile-profile.result.now c.keeps-2.ensures c.profile-profile.ensures c.keeps.ensures
          c.counts.result.now c.counts.ensures c.top.result c.top.ensures c.loop-found.from c.in-Ok.found
          (subst (λ z. IsPackedFrom c.args.accepted.now z c.args.item.now c.loop-found.from c.in-Ok.found) c.last_of-sought.ensures c.in-Ok.ensures.packed),
    ))

pub loop-found-smaller : goal.loop-found-smaller
loop-found-smaller c =
    let above = c.in-Ok.ensures.packed.first.above in
    let under = below_count c.args.accepted.now c.args.own.now c.args.others.now c.args.item.now c.profile-profile.result.now c.keeps-2.ensures c.profile-profile.ensures c.keeps.ensures
    c.counts.result.now c.counts.ensures c.top.result c.top.ensures c.loop-found.from c.in-Ok.found
    (subst (λ z. IsPackedFrom c.args.accepted.now z c.args.item.now c.loop-found.from c.in-Ok.found) c.last_of-sought.ensures c.in-Ok.ensures.packed) in
    omega (arith, above, under)
