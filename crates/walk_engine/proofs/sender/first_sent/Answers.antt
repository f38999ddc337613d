use Rattle.std.proofs.Common.{◌+◌}
use Rattle.walk_engine.proofs.Searching.{searched_start, searched_past, none_left}
use Rattle.walk_engine.proofs.SendingFirst.{best_page, best_filling, best_least}
use Rattle.walk_engine.proofs.sender.first_sent.Goals as goal

pub loop-number-init : goal.loop-number-init
loop-number-init c = (
  searched_start c.args.accepted.now c.args.context.now c.args.item.now c.profile-profile.result.now c.keeps-2.ensures c.profile-profile.ensures c.keeps.ensures
      0 c.counts.result.now c.counts.ensures c.top.result c.top.ensures,
  c.requires.kept,
)

pub returns-in-Written-clause-found : goal.returns-in-Written-clause-found
returns-in-Written-clause-found c =
    best_least c.args.accepted.now c.args.context.now c.args.item.now c.profile-profile.result.now c.keeps-2.ensures c.profile-profile.ensures c.keeps.ensures
    _ c.loop-number.number c.in-Written.page c.loop-number.invariant.0 (rw c.in-Written.is at c.in_ok-told.ensures.is)

pub returns-in-Some-clause-found : goal.returns-in-Some-clause-found
returns-in-Some-clause-found c =
    best_page c.args.accepted.now c.args.context.now c.args.item.now c.profile-profile.result.now c.keeps-2.ensures c.profile-profile.ensures c.keeps.ensures
    _ (c.loop-number.number + c.in_ok-number.field-0) c.in-Some.written
    (searched_past c.args.accepted.now c.args.context.now c.args.item.now 0 _ c.loop-number.number c.in_ok-number.field-0 c.loop-number.invariant.0 c.in_ok-number.ensures)
    c.if-number-count.true (rw c.in-Some.is at c.in_ok-written.ensures)

pub returns-in-Found-clause-found : goal.returns-in-Found-clause-found
returns-in-Found-clause-found c =
    best_filling c.args.accepted.now c.args.context.now c.args.item.now c.profile-profile.result.now c.keeps-2.ensures c.profile-profile.ensures c.keeps.ensures
    _ (c.loop-number.number + c.in_ok-number.field-0) c.in-Found.packed
    (searched_past c.args.accepted.now c.args.context.now c.args.item.now 0 _ c.loop-number.number c.in_ok-number.field-0 c.loop-number.invariant.0 c.in_ok-number.ensures)
    c.if-number-count.true (rw c.in-Found.is at c.in_ok-packed.ensures)

pub returns-clause-none : goal.returns-clause-none
returns-clause-none c =
    none_left c.args.accepted.now c.args.context.now c.args.item.now c.profile-profile.result.now c.keeps-2.ensures c.profile-profile.ensures c.keeps.ensures
    0 _ c.loop-number.number c.loop-number.invariant.0 c.loop-number-test.false
