use Rattle.std.proofs.Common.{rules}
use Rattle.walk_engine.proofs.TopStanding.{no_arguments}
use Rattle.tool_run.proofs.avoidance.part_at.Goals as goal

pub standing_at-requires-clause-arguments : goal.standing_at-requires-clause-arguments
standing_at-requires-clause-arguments c = rw (c.top.ensures) (no_arguments _ c.keeps.ensures)

pub returns-in-Some : goal.returns-in-Some
returns-in-Some c = (rw (c.in-Some.is, c.top.ensures) at c.in_ok-part.ensures, (search (rules)))
