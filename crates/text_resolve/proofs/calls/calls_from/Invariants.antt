use Rattle.std.proofs.Common.{◌≡◌, ◌++◌, drop}
use Rattle.std.specs.List.{flat_map}
use Rattle.text_resolve.specs.Calls.{calls_in}
use Rattle.text_resolve.proofs.calls.calls_from.Given as goal

abbrev pub invariant-loop-section : goal.invariant-loop-section
invariant-loop-section l = l.found ++ flat_map (calls_in l.text l.methods) (drop l.section-index l.section-items) ≡ flat_map (calls_in l.text l.methods) l.section-items
