use Rattle.std.proofs.Common.{◌<◌, ◌^◌, arith, length}
use Rattle.walk_engine.proofs.Reading.{cut_short}
use Rattle.walk_engine.proofs.reader.refused.Goals as goal

pub returns-then-is_cut_short : goal.returns-then-is_cut_short
returns-then-is_cut_short c =
    let few : length c.args.cursor.now.left < 2 ^ 23 = omega (arith, c.if-rest-lt-MANY.true, c.rest.ensures.value) in
    cut_short c.args.accepted.now c.args.context.now c.args.cursor.now.left c.requires few
