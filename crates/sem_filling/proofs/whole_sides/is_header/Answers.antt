use Rattle.std.proofs.Common.{refl, ap}
use Rattle.std.proofs.lemmas.Option.{slice_get_read}
use Rattle.sem_filling.specs.Fillings.{header, is_header}
use Rattle.sem_filling.proofs.WholeSidesPieces.{header_on, header_past, not_header}
use Rattle.sem_filling.proofs.whole_sides.is_header.Goals.{in-Header+else-not-skip, in_default}
use Rattle.sem_filling.proofs.whole_sides.is_header.Goals as goal

pub loop-field-preserved : goal.loop-field-preserved
loop-field-preserved c =
    let gs = c.as_slice-field-items.result.now in
    let i = c.loop-field.field-index in
    let at = slice_get_read gs _ i c.field-item.result refl c.loop-field-test.true c.field-item.is in
    elim c.match-field.branch [
      | in-Header+else-not-skip w ↦ rw w.cursor-is (header_on c.args.bits.now (header c.args.filling.now) gs i c.field-item.result at c.loop-field.cursor w.skip.new.self (ap is_header w.in-Header.is)
          (w.skip.ensures.skipped w.if-not-skip.false) c.loop-field.invariant)
      | in_default w ↦ rw w.cursor-is (header_past c.args.bits.now (header c.args.filling.now) gs i c.field-item.result at c.loop-field.cursor.left (not_header _ w.in_default.not-Header) c.loop-field.invariant)
    ]
