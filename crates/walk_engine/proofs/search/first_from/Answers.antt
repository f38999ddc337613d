use Rattle.std.proofs.Common.{◌+◌}
use Rattle.walk_engine.proofs.Searching.{searched_start, searched_past, first_found, none_left}
use Rattle.walk_engine.proofs.search.first_from.Goals as goal

pub loop-number-init : goal.loop-number-init
loop-number-init c =
    searched_start c.args.accepted.now c.args.context.now c.args.item.now c.profile-profile.result.now c.keeps-2.ensures c.profile-profile.ensures c.keeps.ensures
    c.args.from c.counts.result.now c.counts.ensures c.top.result c.top.ensures

pub returns-in-Found-clause-found : goal.returns-in-Found-clause-found
returns-in-Found-clause-found c =
    first_found c.args.accepted.now c.args.context.now c.args.item.now c.args.from _ (c.loop-number.number + c.in_ok-number.field-0) c.in-Found.packed
    (searched_past c.args.accepted.now c.args.context.now c.args.item.now c.args.from _ c.loop-number.number c.in_ok-number.field-0 c.loop-number.invariant c.in_ok-number.ensures)
    c.if-number-count.true
    (rw c.in-Found.is at c.in_ok-packed.ensures)

pub returns-clause-none : goal.returns-clause-none
returns-clause-none c =
    none_left c.args.accepted.now c.args.context.now c.args.item.now c.profile-profile.result.now c.keeps-2.ensures c.profile-profile.ensures c.keeps.ensures
    c.args.from _ c.loop-number.number c.loop-number.invariant c.loop-number-test.false
