use Rattle.std.proofs.Common.{◌+◌, ◌/◌, length, arith, rules, subst}
use Rattle.std.specs.Prelude.{IsTrue}
use Rattle.walk_pages.proofs.Going.{paths_by}
use Rattle.walk_session.proofs.Writing.{no_room}
use Rattle.walk_session.proofs.Packing.{filling_packed, page_kept, page_sent, page_too_long, put_plain, put_blames}
use Rattle.walk_session.proofs.packer.send_plain.Goals as goal

pub returns-then-not-has_room-clause-fault : goal.returns-then-not-has_room-clause-fault
returns-then-not-has_room-clause-fault c =
    let short = no_room ((c.len-in-Ok-Page.result + 7) / 8) (length c.args.room.now) c.if-not-has_room.ensures.1 in
    let n = c.len-in-Ok-Page.ensures.value in
    let m = c.len-then-not-has_room.ensures.value in
    page_too_long c.args.accepted.now c.args.context.now c.args.item.now c.in-Ok-Page.written (rw c.in-Ok-Page.field-0-is at c.in-Ok-Page.ensures.sent) (length c.args.room.now) c.len-then-not-has_room.result m (omega (arith, n, m, short))

pub returns-else-not-branch-clause-ok : goal.returns-else-not-branch-clause-ok
returns-else-not-branch-clause-ok c =
    page_sent c.args.accepted.now c.args.context.now c.args.item.now c.in-Ok-Page.written (rw c.in-Ok-Page.field-0-is at c.in-Ok-Page.ensures.sent) c.goes_on_after.new.context c.args.room.now c.write_bits.new.room c.len-count.result
    c.write_bits.ensures c.len-count.ensures.value (c.in_ok-goes_on_after-in-Ok-Page.ensures.ok c.if-not-branch.false)

pub returns-in-Ok-Filling-clause-ok : goal.returns-in-Ok-Filling-clause-ok
returns-in-Ok-Filling-clause-ok c =
    put_plain c.args.accepted.now c.args.context.now c.args.item.now c.put.new.context c.in-Ok-Filling.found c.args.room.now c.put.new.room c.put.result
    (filling_packed c.args.accepted.now c.args.context.now c.args.item.now c.in-Ok-Filling.found (rw c.in-Ok-Filling.field-0-is at c.in-Ok-Filling.ensures.sent)) c.put.ensures.ok

pub returns-in-Ok-Filling-clause-fault : goal.returns-in-Ok-Filling-clause-fault
returns-in-Ok-Filling-clause-fault c =
    put_blames c.args.accepted.now c.args.context.now c.args.item.now c.in-Ok-Filling.found (length c.args.room.now) c.put.result
    (filling_packed c.args.accepted.now c.args.context.now c.args.item.now c.in-Ok-Filling.found (rw c.in-Ok-Filling.field-0-is at c.in-Ok-Filling.ensures.sent)) c.put.ensures.fault

pub returns-else-not-branch-clause-kept : goal.returns-else-not-branch-clause-kept
returns-else-not-branch-clause-kept c =
    page_kept c.args.accepted.now c.args.context.now c.args.item.now c.in-Ok-Page.written (rw c.in-Ok-Page.field-0-is at c.in-Ok-Page.ensures.sent) c.goes_on_after.new.context
    (c.in_ok-goes_on_after-in-Ok-Page.ensures.kept c.if-not-branch.false)

pub goes_on_after-requires : goal.goes_on_after-requires
goes_on_after-requires c = λ known. paths_by c.args.accepted.now c.args.context.now c.take-page.result (search rules) (subst IsTrue c.is_some-known.ensures known)
