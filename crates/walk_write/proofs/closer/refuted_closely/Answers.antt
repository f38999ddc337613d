use Rattle.std.proofs.Common.{[], sym, subst}
use Rattle.walk_write.specs.Foresight.{HasSeen}
use Rattle.walk_write.proofs.ForesightLemmas.{sees}
use Rattle.walk_write.proofs.closer.refuted_closely.Goals as goal

pub refuted_in-requires-clause-seen : goal.refuted_in-requires-clause-seen
refuted_in-requires-clause-seen c =
    subst (λ z. HasSeen c.args.place.now c.in-Some.start.format c.in-Some-format_of.format.now c.args.source.now.asked.now z c.args.number c.in-Some.start.digits []) (sym c.as_slice-plan.ensures)
    (sees c.args.place.now c.args.number c.in-Some.start c.in-Some.ensures.found c.in-Some-plans_of.plans.now (sym c.in-Some-plans_of.ensures) c.in-Some-format_of.format.now (sym c.in-Some-format_of.ensures) c.args.source.now.asked.now)

pub refuted_in-requires-clause-listed : goal.refuted_in-requires-clause-listed
refuted_in-requires-clause-listed c = c.in-Some-looks_of.ensures c.in-Some-format_of.format.now (sym c.in-Some-format_of.ensures)
