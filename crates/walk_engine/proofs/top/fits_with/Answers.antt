use Rattle.walk_engine.proofs.TopStanding.{no_arguments}
use Rattle.walk_engine.proofs.top.fits_with.Goals as goal

pub packed_if_fits-requires-clause-arguments : goal.packed_if_fits-requires-clause-arguments
packed_if_fits-requires-clause-arguments c = rw (c.top_frame.ensures.profile, c.top_frame.ensures.method, c.top_frame.ensures.arguments) (no_arguments _ c.keeps.ensures)
