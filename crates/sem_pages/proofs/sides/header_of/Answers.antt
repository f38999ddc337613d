use Rattle.std.proofs.Common.{rules, refl}
use Rattle.std.proofs.lemmas.Option.{slice_get_read}
use Rattle.sem_pages.proofs.Levels.{header_next}
use Rattle.sem_pages.proofs.sides.header_of.Goals as goal

pub loop-i-preserved : goal.loop-i-preserved
loop-i-preserved c =
    let one = slice_get_read c.args.fields.now _ c.loop-i.i c.index-fields-i.result refl (search rules) c.index-fields-i.is in
    let other = slice_get_read c.args.shown.now _ c.loop-i.i c.index-shown-i.result refl (search rules) c.index-shown-i.is in
    rw (c.in_ok-adds_header.ensures c.if-not-branch.false) (header_next c.args.fields.now c.args.shown.now c.loop-i.i _ _ c.loop-i.header _ one other c.loop-i.invariant)
