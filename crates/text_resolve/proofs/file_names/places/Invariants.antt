use Rattle.std.proofs.Common.{◌≡◌, ◌++◌, drop}
use Rattle.text_resolve.specs.Parts.{method_places}
use Rattle.text_resolve.proofs.file_names.places.Given as goal

abbrev pub invariant-loop-part : goal.invariant-loop-part
invariant-loop-part l = l.places ++ method_places (drop l.part-index l.parts) ≡ method_places l.parts
