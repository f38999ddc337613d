use Rattle.std.proofs.Common.{◌≡◌, ◌++◌, drop}
use Rattle.cert_rules.specs.Reading.{start_slots}
use Rattle.walk_steps.proofs.slots.at_start.Given as goal

abbrev pub invariant-loop-index : goal.invariant-loop-index
invariant-loop-index l = l.slots.items ++ start_slots l.format.listing l.index (drop l.index l.items) ≡ start_slots l.format.listing 0 l.items
