-- Tables of places.
use Rattle.std.specs.Prelude.{◌≡◌, ℕ, ◌*◌, ◌<◌, nat_lt, Bool, true, ◌&&◌, ◌==◌, not, List, length, get_or, Some}
use Rattle.std.specs.List.{slice_get}
use Rattle.text_source.specs.Places.{line_of, column_of}
use Rattle.text_source.specs.declared.source.Position.{Position}
use Rattle.text_listing.specs.declared.places.ShortPlace.{ShortPlace}

-- the place of an octet
pub record IsPlace (octets : List ℕ) (offset : ℕ) (place : Position) : Type 0 where
  pub line : place.line ≡ line_of octets offset
  pub column : place.column ≡ column_of octets offset

abbrev pub place_of : ShortPlace → Position
place_of spot = record { line = spot.line; column = spot.column }

-- each entry is the place of an octet, of every sixteenth
abbrev pub AreKnown : List ℕ → List ShortPlace → Type 0
AreKnown octets table = (k : ℕ) (spot : ShortPlace) → slice_get table k ≡ Some spot → IsPlace octets (k * 16) (place_of spot)

-- an octet that is a character and ends no line
abbrev pub is_plain : ℕ → Bool
is_plain c = nat_lt c 128 && not (c == 10)

abbrev pub ArePlain : List ℕ → Type 0
ArePlain part = (j : ℕ) → j < length part → is_plain (get_or part j 0) ≡ true
