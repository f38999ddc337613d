use Rattle.std.proofs.Common.{rules, ◌∙◌, refl, sym, ◌/◌, ◌≤◌, subst, length}
use Rattle.std.specs.Prelude.{IsTrue}
use Rattle.sem_filling.specs.Entries.{entries}
use Rattle.walk_line.proofs.StepsTrying.{count_within, told_at_once}
use Rattle.walk_pages.proofs.Going.{paths_by}
use Rattle.walk_line.proofs.packet.packet_by_page.Goals as goal

pub returns-clause-some : goal.returns-clause-some
returns-clause-some c =
    let octets = c.args.octets.now in
    let held = rw c.in-Some.is at c.in_ok-bits.ensures.found in
    let read = rw c.in-Some-2.is at c.in_ok-read.ensures.read in
    let own = rw c.in-Some-3.is at c.in_ok-_own.ensures.found in
    let asked = rw c.in-Some-4.is at c.in_ok-asked.ensures in
    let within = count_within octets c.in-Some.bits _ c.new-cursor.result c.read_page.new.cursor c.in-Some-2.read.bits held.1 c.new-cursor.ensures read.advances read.bits_is in
    let over = c.in-Some-checked_add.ensures.1 in (
      subst (λ n. n / 8 ≤ length octets) (sym over) within,
      told_at_once c.args.accepted.now c.args.context.now c.goes_on_after.new.context octets (c.in-Some-checked_add.over / 8) c.in-Some.bits c.in-Some-3._own read.filling c.new-cursor.result c.read_page.new.cursor
          (entries read.filling) _ held.1 read.fits c.new-cursor.ensures read.advances own.1 (own.0 ∙ read.bits_is) refl (c.in_ok-goes_on_after.ensures.ok c.if-not-branch.false read.filling read.fits read.shown)
          (λ i. record { header = read.header_is i; asked = asked read.filling read.shown i }),
    )

pub returns-clause-kept : goal.returns-clause-kept
returns-clause-kept c =
    let read = rw c.in-Some-2.is at c.in_ok-read.ensures.read in
    c.in_ok-goes_on_after.ensures.kept c.if-not-branch.false read.filling read.fits read.shown

pub goes_on_after-requires : goal.goes_on_after-requires
goes_on_after-requires c = λ known. paths_by c.args.accepted.now c.args.context.now c.take-last.result (search rules) (subst IsTrue c.is_some-known.ensures known)
