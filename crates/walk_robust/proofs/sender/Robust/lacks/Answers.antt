use Rattle.std.proofs.Common.{rules, sym, subst, [], arith}
use Rattle.walk_engine.specs.Writing.{IsPackedFrom}
use Rattle.walk_robust.specs.Lacks.{AddsLack}
use Rattle.walk_robust.specs.Sending.{Sending}
use Rattle.walk_robust.proofs.Lackings.{LackTo, one_told, to_none}
use Rattle.walk_robust.proofs.Searches.{below_count}
use Rattle.walk_robust.proofs.sender.Robust.lacks.Goals as goal

pub loop-next-init : goal.loop-next-init
loop-next-init c =
    let s = c.args.self.now in
    subst (LackTo c.args.accepted.now s.own s.others c.args.item.now 0) (sym c.new-found.ensures) (to_none c.args.accepted.now s.own s.others c.args.item.now)

pub overflow_add-from : goal.overflow_add-from
overflow_add-from c =
    (search (
      rules,
      below_count c.args.accepted.now c.self.inside.own [] c.args.item.now c.profile-profile.result.now c.keeps-2.ensures c.profile-profile.ensures c.keeps.ensures
          c.counts.result.now c.counts.ensures c.top.result c.top.ensures c.loop-next.from c.in-Ok.next c.in-Ok.ensures.packed,
    ))

pub loop-next-smaller : goal.loop-next-smaller
loop-next-smaller c =
    let above = c.in-Ok.ensures.packed.first.above in
    let under = below_count c.args.accepted.now c.self.inside.own [] c.args.item.now c.profile-profile.result.now c.keeps-2.ensures c.profile-profile.ensures c.keeps.ensures
    c.counts.result.now c.counts.ensures c.top.result c.top.ensures c.loop-next.from c.in-Ok.next c.in-Ok.ensures.packed in
    omega (arith, above, under)

pub loop-next-preserved : goal.loop-next-preserved
loop-next-preserved c =
    let a = c.args.accepted.now in
    let s = c.args.self.now in
    let packed = subst (λ (z : Sending). IsPackedFrom a z.own c.args.item.now c.loop-next.from c.in-Ok.next) c.self.view_is c.in-Ok.ensures.packed in
    let adds = subst (λ (z : Sending). AddsLack a z.others c.in-Ok.next.packed.filling c.loop-next.found c.add_lack.new.found) c.self.view_is
    (subst (λ xs. AddsLack a xs c.in-Ok.next.packed.filling c.loop-next.found c.add_lack.new.found) c.as_slice-others.ensures.value c.in_ok-add_lack-in-Ok.ensures) in
    one_told a s.own s.others c.args.item.now c.loop-next.from c.loop-next.found c.in-Ok.next c.loop-next.invariant packed
    (λ each. c.requires.none c.in-Ok.next.packed.filling packed.first.fits each packed.first.has) c.add_lack.new.found adds
