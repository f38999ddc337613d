use Rattle.std.proofs.Common.{◌++◌, ◌+◌, map, drop, refl, arith}
use Rattle.std.proofs.lemmas.Option.{slice_get_read}
use Rattle.sem_expr.specs.declared.expr.Side.TheVariants.{Uncompressed}
use Rattle.text_methods.specs.Constraints.{on}
use Rattle.text_methods.proofs.ConstraintsNumbering.{next, last}
use Rattle.text_methods.proofs.constraints.add_base.Goals as goal

pub add_kept-requires : goal.add_kept-requires
add_kept-requires c =
    let here = slice_get_read c.args.items.now _ c.loop-place.place c.index-items-place.result refl c.loop-place-test.true c.index-items-place.is in
    c.requires c.loop-place.place c.index-items-place.result here

pub loop-place-preserved : goal.loop-place-preserved
loop-place-preserved c = λ rest whole so.
    let here = slice_get_read c.args.items.now _ c.loop-place.place c.index-items-place.result refl c.loop-place-test.true c.index-items-place.is in
    c.in_ok-add_kept.ensures (map (on Uncompressed) (drop (c.loop-place.place + 1) c.args.items.now) ++ rest) whole
    (next (map (on Uncompressed)) c.args.items.now c.loop-place.place c.index-items-place.result rest here (c.loop-place.invariant rest whole so))

pub returns : goal.returns
returns c = λ rest whole so. last (map (on Uncompressed)) c.args.items.now c.loop-place.place rest (omega arith) (c.loop-place.invariant rest whole so)
