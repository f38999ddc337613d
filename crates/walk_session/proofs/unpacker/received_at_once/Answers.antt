use Rattle.std.proofs.Common.{refl, rules, subst}
use Rattle.std.specs.Prelude.{IsTrue}
use Rattle.walk_pages.proofs.Going.{paths_by}
use Rattle.walk_session.proofs.Steps.{page_received}
use Rattle.walk_session.proofs.unpacker.received_at_once.Goals as goal

pub returns-clause-some : goal.returns-clause-some
returns-clause-some c = λ packed count is.
    page_received c.args.accepted.now c.args.context.now c.goes_on_after.new.context packed count c.args.bits.now c.new-cursor.result c.read_page.new.cursor c.in-Some.read c.in-Some-2.given
    c.as_slice.result.now c.in_ok-values.values.items _ c.args.header.now c.write_bits.new.room c.args.asked.now c.put.new.room is c.new-cursor.ensures (rw c.in-Some.is at c.in_ok-read.ensures.read)
    (rw c.in-Some-2.is at c.in_ok-given.ensures) c.as_slice.ensures c.in_ok-values.ensures (search rules) (search rules) refl c.write_bits.ensures (search rules) (search rules) (c.in_ok-goes_on_after.ensures.ok c.if-not-branch.false)

pub returns-clause-kept : goal.returns-clause-kept
returns-clause-kept c =
    let read = rw c.in-Some.is at c.in_ok-read.ensures.read in
    c.in_ok-goes_on_after.ensures.kept c.if-not-branch.false read.filling read.fits read.shown

pub goes_on_after-requires : goal.goes_on_after-requires
goes_on_after-requires c = λ known. paths_by c.args.accepted.now c.args.context.now c.take-last.result (search rules) (subst IsTrue c.is_some-known.ensures known)
