use Rattle.std.proofs.Common.{[], sym, subst}
use Rattle.walk_write.specs.Foresight.{HasSeen}
use Rattle.walk_write.proofs.ForesightLemmas.{sees}
use Rattle.walk_write.proofs.foresight.foreseen.Goals as goal

pub foreseen_in-requires-clause-seen : goal.foreseen_in-requires-clause-seen
foreseen_in-requires-clause-seen c =
    subst (λ z. HasSeen c.args.place.now c.args.start.format c.in-Some-format_of.format.now c.args.source.now.asked.now z c.args.number.now c.args.start.digits []) (sym c.as_slice-2.ensures)
    (sees c.args.place.now c.args.number.now c.args.start c.requires.begins c.in-Some.plans.now (sym c.in-Some.ensures) c.in-Some-format_of.format.now (sym c.in-Some-format_of.ensures) c.args.source.now.asked.now)

pub foreseen_in-requires-clause-listed : goal.foreseen_in-requires-clause-listed
foreseen_in-requires-clause-listed c = c.in-Some-looks_of.ensures c.in-Some-format_of.format.now (sym c.in-Some-format_of.ensures)
