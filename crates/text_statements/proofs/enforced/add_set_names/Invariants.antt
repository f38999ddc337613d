use Rattle.std.proofs.Common.{◌≡◌, drop}
use Rattle.text_statements.specs.Enforced as spec
use Rattle.text_statements.proofs.enforced.add_set_names.Given as goal

abbrev pub invariant-loop-item : goal.invariant-loop-item
invariant-loop-item l = spec.with_words l.text l.names (spec.set_by_items (drop l.item-index l.items)) ≡ spec.with_words l.text l.initial.names (spec.set_by_items l.items)
