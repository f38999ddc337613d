use Rattle.std.proofs.Common.{◌++◌, ◌+◌, map, drop, refl, arith}
use Rattle.std.proofs.lemmas.Option.{slice_get_read}
use Rattle.text_methods.specs.Constraints.{on}
use Rattle.text_methods.proofs.ConstraintsNumbering.{next, last}
use Rattle.text_methods.proofs.constraints.add_items.Goals as goal

pub loop-item-preserved : goal.loop-item-preserved
loop-item-preserved c = λ rest whole so.
    let here = slice_get_read c.args.items.now _ c.loop-item.item-index c.item-item.result refl c.loop-item-test.true c.item-item.is in
    c.in_ok-add_statement.ensures (map (on c.args.side) (drop (c.loop-item.item-index + 1) c.args.items.now) ++ rest) whole
    (next (map (on c.args.side)) c.args.items.now c.loop-item.item-index c.item-item.result rest here (c.loop-item.invariant rest whole so))

pub returns : goal.returns
returns c = λ rest whole so. last (map (on c.args.side)) c.args.items.now c.loop-item.item-index rest (omega arith) (c.loop-item.invariant rest whole so)
