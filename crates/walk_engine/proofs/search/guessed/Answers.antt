use Rattle.std.proofs.Common.{refl}
use Rattle.walk_engine.proofs.Searching.{tried_right}
use Rattle.walk_engine.proofs.search.guessed.Goals as goal

pub returns : goal.returns
returns c =
    tried_right c.args.accepted.now c.args.context.now c.args.item.now c.profile.result.now c.keeps-2.ensures c.profile.ensures c.keeps.ensures
    c.args.number c.in-Some.filling (c.if-not-has_it.ensures refl) c.packed_if_right.result c.packed_if_right.ensures.found
