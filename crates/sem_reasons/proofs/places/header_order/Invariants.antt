use Rattle.std.proofs.Common.{◌≡◌, ◌++◌, drop}
use Rattle.sem_reasons.specs.Places.{header_order}
use Rattle.sem_reasons.proofs.places.header_order.Given as goal

abbrev pub invariant-loop-index : goal.invariant-loop-index
invariant-loop-index l = l.found ++ header_order l.index (drop l.index l.fields) ≡ header_order 0 l.fields
