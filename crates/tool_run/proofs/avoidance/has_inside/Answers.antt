use Rattle.std.proofs.Common.{rules}
use Rattle.tool_run.proofs.avoidance.has_inside.Goals as goal

pub returns-in-Some : goal.returns-in-Some
returns-in-Some c = λ is. (c.in-Some.part, rw (c.in-Some.is) at c.in_ok-part.ensures, (search (rules)))
