use Rattle.walk_engine.proofs.TopStanding.{no_arguments}
use Rattle.walk_engine.proofs.top.fits.Goals as goal

pub sides_if_fits-requires-clause-arguments : goal.sides_if_fits-requires-clause-arguments
sides_if_fits-requires-clause-arguments c = rw (c.top_frame.ensures.profile, c.top_frame.ensures.method, c.top_frame.ensures.arguments) (no_arguments _ c.keeps.ensures)
