use Rattle.std.proofs.Common.{[], sym, ◌∙◌, ap, subst, drop}
use Rattle.std.specs.Prelude.{slice_get}
use Rattle.sem_bits.specs.Cursor.{Place}
use Rattle.walk_write.specs.Premises.{told_numbers}
use Rattle.walk_write.specs.Refutation.{IsOther, reference_at}
use Rattle.walk_write.specs.Sources.{front}
use Rattle.walk_write.proofs.CloserLemmas.{asked_fails}
use Rattle.walk_write.proofs.closer.refuted_by_asked.Goals as goal

pub returns-then-has_other : goal.returns-then-has_other
returns-then-has_other c =
    let place = c.args.outlook.now.place.now in
    let format = c.args.outlook.now.format.now in
    let asked = c.args.outlook.now.source.now.asked.now in
    let d = c.in-Some.found.now in
    asked_fails place c.args.outlook.now.index format asked c.args.field c.args.number c.args.digits c.args.choices.now c.requires.before d c.in-Some-at.value.now
    (ap (λ xs. slice_get xs c.args.field) (sym c.as_slice.ensures) ∙ sym c.in-Some.ensures) c.if-not-found.false (ap (slice_get asked) (sym c.asked_before.ensures) ∙ sym c.in-Some-at.ensures)
    (subst (λ (z : Place). IsOther place.accepted.now.profile (told_numbers format place.frame.arguments.now []) d.encoding (reference_at place d) (drop 0 z.left)) c.new-cursor.ensures (c.in_ok-has_other.ensures c.if-has_other.true))
    (front c.args.outlook.now.source.now) c.alike.result c.alike.ensures.count c.alike.ensures.share
