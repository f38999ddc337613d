use Rattle.std.proofs.Common.{subst}
use Rattle.walk_write.specs.Walking.{Fails}
use Rattle.walk_engine.proofs.Searching.{passed}
use Rattle.walk_engine.proofs.search.walked.Goals as goal

pub returns-in-Some : goal.returns-in-Some
returns-in-Some c =
    let place = c.top_place-place.result in
    passed c.args.accepted.now c.args.context.now c.args.item.now place c.top_place-place.ensures.top c.args.number c.in-Some.many
    (subst (λ bits. Fails place bits c.args.item.now.asked c.args.number c.in-Some.many) (λ j. (c.new-cursor.ensures j).left) (subst (λ asked. Fails place c.new-cursor.result.left asked c.args.number c.in-Some.many) c.as_slice.ensures (rw c.in-Some.is at c.in_ok-many.ensures)))
