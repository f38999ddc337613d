use Rattle.std.proofs.Common.{◌+◌}
use Rattle.text_listing.proofs.PlacesSteps.{Stands}
use Rattle.text_listing.proofs.places.place_after.Given as goal

abbrev pub invariant-loop-octet : goal.invariant-loop-octet
invariant-loop-octet l = Stands l.octets (l.from + l.octet-index) l.line l.column
