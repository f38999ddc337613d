use Rattle.std.proofs.Common.{◌≡◌, ℕ, ◌<◌, true, false, get_or}
use Rattle.text_listing.specs.Known.{is_plain}
use Rattle.text_listing.proofs.places.are_plain.Given as goal

abbrev pub invariant-loop-octet : goal.invariant-loop-octet
invariant-loop-octet l = l.others ≡ false → (j : ℕ) → j < l.octet-index → is_plain (get_or l.part j 0) ≡ true
