use Rattle.walk_engine.proofs.Searching.{packed_first}
use Rattle.walk_engine.proofs.writer.pack.Goals as goal

pub returns-in-Ok-clause-packed : goal.returns-in-Ok-clause-packed
returns-in-Ok-clause-packed c =
    packed_first c.args.accepted.now c.args.context.now c.args.item.now c.profile.result.now c.keeps-2.ensures c.profile.ensures c.keeps.ensures c.pack_from.result c.pack_from.ensures.packed c.in-Ok.found c.in-Ok.is
