use Rattle.walk_engine.proofs.TopStanding.{no_arguments}
use Rattle.walk_loss.proofs.uses.uses_of.Goals as goal

pub filling_uses-requires-clause-arguments : goal.filling_uses-requires-clause-arguments
filling_uses-requires-clause-arguments c = rw (c.as_slice.ensures, c.top.ensures) (no_arguments _ c.keeps.ensures)
