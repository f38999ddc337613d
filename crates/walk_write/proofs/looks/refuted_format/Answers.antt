use Rattle.std.proofs.Common.{drop}
use Rattle.walk_write.proofs.RefutationNever.{never_begins}
use Rattle.walk_write.proofs.WalkingWhole as whole
use Rattle.walk_write.proofs.looks.refuted_format.Goals as goal

pub returns-then-is_in_vain : goal.returns-then-is_in_vain
returns-then-is_in_vain c =
    let place = c.args.place.now in
    let bits = drop c.args.source.now.from c.args.source.now.cursor.now.left in
    let start = c.in-Some.start in
    let b = c.in-Some.ensures.found in
    whole.never_begins place c.requires.stands c.args.number start b bits (never_begins place b.sound start.format bits (c.in_ok-is_in_vain.ensures c.if-is_in_vain.true)) c.args.source.now.asked.now c.alike-alike.result c.alike-alike.ensures.count
    c.alike-alike.ensures.share
