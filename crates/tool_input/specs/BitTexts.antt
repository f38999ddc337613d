-- The text of bits as a function (sem_bits says by `IsText` what a text of bits is).
use Rattle.std.specs.Prelude.{ℕ, ◌-◌, Bool, false, List, [], ◌∷◌, ◌++◌, decimal, length, replicate}
use Rattle.hex.specs.Hex.{encode_lower}
use Rattle.sem_bits.specs.Number.{num}

-- the octets that hold bits: eight to each, the first highest, and after the last of them zeros
abbrev pub octets_of : List Bool → List ℕ
octets_of [] = []
octets_of (a ∷ b ∷ c ∷ d ∷ e ∷ f ∷ g ∷ h ∷ more) = num (a ∷ b ∷ c ∷ d ∷ e ∷ f ∷ g ∷ h ∷ []) ∷ octets_of more
octets_of few = num (few ++ replicate (8 - length few) false) ∷ []

-- their count, a colon, and the octets in hex
abbrev pub bits_text : List Bool → List ℕ
bits_text bits = decimal (length bits) ++ 58 ∷ encode_lower (octets_of bits)
