use Rattle.std.proofs.Common.{ℕ, drop, length}
use Rattle.cert_tables.specs.Tables.{entry}
use Rattle.cert_tables.proofs.GrowthLaid.{one_more, marked_on}
use Rattle.cert_tables.proofs.maker.add_entries.Goals as goal

pub loop-number-preserved : goal.loop-number-preserved
loop-number-preserved c =
    let f : ℕ → ℕ = entry c.args.window.width c.args.window.offset c.args.window.place (drop c.args.window.place c.args.nodes.now) in
    record {
      added = one_more f c.loop-number.number c.args.entries.now c.loop-number.entries c.push.new.self c.entry_at-next.result c.loop-number.invariant.added c.in_ok-push.ensures.ok c.entry_at-next.ensures.value;
      marked = λ named h. marked_on f c.loop-number.number (length c.loop-number.marks) (length c.args.marks.now) c.loop-number.marks c.mark.new.marks named c.entry_at-next.result c.loop-number.auto.marks c.entry_at-next.ensures.value (c.loop-number.invariant.marked named h) c.mark.ensures;
    }
