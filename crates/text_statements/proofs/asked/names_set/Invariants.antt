use Rattle.std.proofs.Common.{◌≡◌, drop}
use Rattle.text_statements.specs.Asked.{control_items}
use Rattle.text_statements.specs.Enforced.{set_names, set_by_items, with_words}
use Rattle.text_statements.proofs.asked.names_set.Given as goal

abbrev pub invariant-loop-section : goal.invariant-loop-section
invariant-loop-section l = with_words l.text l.names (set_by_items (control_items (drop l.section-index l.sections))) ≡ set_names l.text (control_items l.sections)
