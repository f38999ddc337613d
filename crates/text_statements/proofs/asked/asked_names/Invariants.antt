use Rattle.std.proofs.Common.{take}
use Rattle.text_statements.specs.Asked.{AreAsked, control_items}
use Rattle.text_statements.specs.Enforced.{set_names}
use Rattle.text_statements.proofs.asked.asked_names.Given as goal

abbrev pub invariant-loop-section : goal.invariant-loop-section
invariant-loop-section l = AreAsked l.scope (set_names l.text (control_items l.sections)) (control_items (take l.section-index l.sections)) l.asked
