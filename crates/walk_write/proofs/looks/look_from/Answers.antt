use Rattle.std.proofs.Common.{drop}
use Rattle.walk_write.proofs.RefutationNever.{never_begins}
use Rattle.walk_write.proofs.WalkingPast.{passed}
use Rattle.walk_write.proofs.WalkingWhole as whole
use Rattle.walk_write.proofs.looks.look_from.Goals as goal

pub returns-then-in_vain-clause-past : goal.returns-then-in_vain-clause-past
returns-then-in_vain-clause-past c =
    let place = c.args.place.now in
    let bits = drop c.args.source.now.from c.args.source.now.cursor.now.left in
    let asked = c.args.source.now.asked.now in
    let b = c.requires.begins in
    passed place bits asked c.args.number.now c.alike-alike.result
    (whole.never_begins place c.requires.stands c.args.number.now c.args.start b bits (never_begins place b.sound c.args.start.format bits (c.in_ok-in_vain.ensures c.if-in_vain.true)) asked c.alike-alike.result c.alike-alike.ensures.count
    c.alike-alike.ensures.share)
