use Rattle.std.proofs.Common.{◌≡◌, ◌+◌, ◌*◌, length}
use Rattle.text_listing.specs.Known.{IsPlace, AreKnown}
use Rattle.text_listing.proofs.places.positions.Given as goal

abbrev pub invariant-loop-k : goal.invariant-loop-k
invariant-loop-k l = record {
  here : IsPlace l.octets (l.k * 16) l.place;
  known : AreKnown l.octets l.table.items;
  count : length l.table.items ≡ l.k + 1;
}
