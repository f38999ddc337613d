use Rattle.std.proofs.Common.{◌+◌, arith, drop, length}
use Rattle.cert_tables.proofs.TablesPassing.{width_narrow}
use Rattle.cert_tables.proofs.GrowthLaid.{filled_up, laid, started}
use Rattle.cert_tables.proofs.maker.make_table.Goals as goal

pub numbers_of-requires : goal.numbers_of-requires
numbers_of-requires c = omega (arith, c.width_after-width.ensures, width_narrow c.args.offset (drop (c.args.place + 1) c.args.nodes.now))

pub add_entries-requires-clause-narrow : goal.add_entries-requires-clause-narrow
add_entries-requires-clause-narrow c = omega (arith, c.width_after-width.ensures, width_narrow c.args.offset (drop (c.args.place + 1) c.args.nodes.now))

pub returns-then-numbers_of-saturating_sub-clause-next :
    goal.returns-then-numbers_of-saturating_sub-clause-next
returns-then-numbers_of-saturating_sub-clause-next c = λ named marked is_named.
    filled_up c.args.making.now c.args.place c.args.offset c.width_after-width.result c.args.nodes.now c.requires.test c.requires.some c.width_after-width.ensures c.args.marks.now named marked is_named (omega (arith, c.if-numbers_of-saturating_sub.true, c.saturating_sub.ensures, c.numbers_of.ensures, c.len-first.ensures))

pub returns-clause-start : goal.returns-clause-start
returns-clause-start c =
    started c.add_entries.new.entries c.args.making.now.entries c.args.nodes.now c.args.place c.args.offset c.width_after-width.result c.len-first.result c.requires.test c.width_after-width.ensures c.len-first.ensures c.in_ok-add_entries.ensures.added

pub returns-clause-next : goal.returns-clause-next
returns-clause-next c = λ named marked is_named.
    laid c.args.making.now c.args.place c.args.offset c.width_after-width.result c.args.nodes.now c.requires.test c.requires.some c.width_after-width.ensures c.add_entries.new.entries c.add_entries.new.marks (length c.args.marks.now) named
    c.add_entries.auto.marks c.in_ok-add_entries.ensures.added (c.in_ok-add_entries.ensures.marked named marked) is_named (omega (arith, c.if-numbers_of-saturating_sub.false, c.saturating_sub.ensures, c.numbers_of.ensures, c.len-first.ensures))

pub overflow_cast-result-2 : goal.overflow_cast-result-2
overflow_cast-result-2 c = omega (arith, c.width_after-width.ensures, width_narrow c.args.offset (drop (c.args.place + 1) c.args.nodes.now))
