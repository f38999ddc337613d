use Rattle.std.proofs.Common.{ap, refl, rules}
use Rattle.std.proofs.lemmas.Option.{slice_get_read}
use Rattle.sem_pages.proofs.Comparing.{all_come, next_come}
use Rattle.sem_pages.proofs.Levels.{header_next}
use Rattle.sem_pages.proofs.sides.is_header.Goals as goal

pub loop-i-preserved : goal.loop-i-preserved
loop-i-preserved c =
    let one = slice_get_read c.args.fields.now _ c.loop-i.i c.index-fields-i.result refl (search rules) c.index-fields-i.is in
    let other = slice_get_read c.args.shown.now _ c.loop-i.i c.index-shown-i.result refl (search rules) c.index-shown-i.is in
    let more = next_come c.new-cursor.result.left c.args.bits.now _ c.loop-i.compared c.goes_past.new.compared (search rules) (c.goes_past.ensures c.if-not-goes_past.false) c.loop-i.invariant.0 in
    (more.0, rw more.1 (header_next c.args.fields.now c.args.shown.now c.loop-i.i _ _ _ _ one other c.loop-i.invariant.1))

pub returns : goal.returns
returns c is =
    all_come c.new-cursor.result.left c.args.bits.now _ c.loop-i.compared c.args.fields.now c.args.shown.now c.loop-i.i (search rules) (search rules) c.loop-i.invariant.0 c.loop-i.invariant.1 (c.is_end.ensures is)
