use Rattle.std.proofs.Common.{sym, get_or}
use Rattle.std.proofs.lemmas.Option.{slice_get-get_or}
use Rattle.sem_filling.specs.Fillings.{packed, fields_of}
use Rattle.sem_filling.proofs.WholeSidesPieces.{packed_on, packed_off, packed_past}
use Rattle.sem_filling.proofs.whole_sides.is_packed.Goals.{in-Some+else-not-skip, in_default}
use Rattle.sem_filling.proofs.whole_sides.is_packed.Goals as goal

pub returns-then-not-skip : goal.returns-then-not-skip
returns-then-not-skip c =
    let listing = c.as_slice-i-items.result.now in
    let i = c.loop-i.i-index in (
      λ t. absurd (cc),
      λ e. absurd (packed_off c.args.bits.now (packed c.args.filling.now) (fields_of c.args.filling.now) listing i (get_or listing i 0) (slice_get-get_or listing i 0 c.loop-i-test.true)
          c.in-Some.field.now c.loop-i.cursor.left (sym c.in-Some.ensures.value) (c.skip.ensures.other c.if-not-skip.true) c.loop-i.invariant e),
    )

pub loop-i-preserved : goal.loop-i-preserved
loop-i-preserved c =
    let listing = c.as_slice-i-items.result.now in
    let i = c.loop-i.i-index in
    let gs = fields_of c.args.filling.now in
    let at = slice_get-get_or listing i 0 c.loop-i-test.true in
    elim c.match-get.branch [
      | in-Some+else-not-skip w ↦ rw w.cursor-is (packed_on c.args.bits.now (packed c.args.filling.now) gs listing i (get_or listing i 0) at w.in-Some.field.now c.loop-i.cursor w.skip.new.self
          (sym w.in-Some.ensures.value) (w.skip.ensures.skipped w.if-not-skip.false) c.loop-i.invariant)
      | in_default w ↦ rw w.cursor-is (packed_past c.args.bits.now (packed c.args.filling.now) gs listing i (get_or listing i 0) at c.loop-i.cursor.left (sym w.in_default.ensures.value) c.loop-i.invariant)
    ]
