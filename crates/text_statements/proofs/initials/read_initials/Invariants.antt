use Rattle.std.proofs.Common.{take}
use Rattle.text_statements.specs.Initials.{AreRead, bounds_in}
use Rattle.text_statements.proofs.initials.read_initials.Given as goal

abbrev pub invariant-loop-section : goal.invariant-loop-section
invariant-loop-section l = AreRead l.scope (bounds_in (take l.section-index l.sections)) l.initials
