use Rattle.std.proofs.Common.{[]}
use Rattle.std.proofs.lemmas.List.{get_or_read}
use Rattle.sem_filling.specs.declared.filling.Item.{Item}
use Rattle.tool_run.proofs.PrintedTallying.{counted_end, counted_on, counted_start}
use Rattle.tool_run.proofs.stats.count_all.Goals as goal

pub loop-i-init : goal.loop-i-init
loop-i-init c = counted_start c.args.accepted.now c.args.counting c.args.start c.args.items.now _ c.new.ensures.sums c.new-2.ensures.bytes c.new-3.ensures.bytes

pub loop-i-preserved : goal.loop-i-preserved
loop-i-preserved c =
    let d : Item = record { header = []; asked = [] } in
    let x = get_or_read c.args.items.now c.loop-i.i c.index-items-i.result c.loop-i-test.true c.index-items-i.is d in
    counted_on c.args.accepted.now c.args.counting c.args.start c.args.items.now c.loop-i.i d _ _ _ _ _ c.loop-i-test.true x c.loop-i.invariant c.in_ok-count_one.ensures

pub returns : goal.returns
returns c = counted_end c.args.accepted.now c.args.counting c.args.start c.args.items.now _ _ _ c.print_counts.result c.loop-i-test.false c.loop-i.invariant c.print_counts.ensures
