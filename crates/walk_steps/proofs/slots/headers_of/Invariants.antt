use Rattle.std.proofs.Common.{◌≡◌, ◌++◌, drop}
use Rattle.walk_steps.specs.Joined.{header_places}
use Rattle.walk_steps.proofs.slots.headers_of.Given as goal

abbrev pub invariant-loop-index : goal.invariant-loop-index
invariant-loop-index l = l.places.items ++ header_places l.index (drop l.index l.fields) ≡ header_places 0 l.fields
