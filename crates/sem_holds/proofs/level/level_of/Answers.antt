use Rattle.sem_filling.proofs.Bounding.{lie-in-bounds}
use Rattle.sem_holds.proofs.LevelsFields.{not_where_false}
use Rattle.sem_filling.proofs.FitsLimits.{never_unbounded}
use Rattle.sem_holds.proofs.level.level_of.Goals as goal

pub returns-then-not-is_bounded-clause-none : goal.returns-then-not-is_bounded-clause-none
returns-then-not-is_bounded-clause-none c =
    let place = c.in_ok-place.ensures.found in
    never_unbounded lie-in-bounds c.args.profile.now.methods c.args.profile.now.sizes c.keeps.ensures.sized c.args.method c.args.arguments.now c.args.filling.now _ place.sizes_are
    (not_where_false c.is_bounded.result c.is_bounded.ensures c.if-not-is_bounded.true)
