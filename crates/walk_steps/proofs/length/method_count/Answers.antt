use Rattle.std.proofs.Common.{sym}
use Rattle.walk_steps.proofs.FindingMeasures.{sized_asked}
use Rattle.walk_steps.proofs.length.method_count.Goals as goal

pub value-requires : goal.value-requires
value-requires c = let here = sized_asked c.args.side c.args.library.now c.in-Some.size.now (sym c.in-Some.ensures) in record { asked = c.requires.asked here.0 c.in-Some.size.now here.1 }
