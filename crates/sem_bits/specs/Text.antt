use Rattle.std.specs.Prelude.{◌≡◌, ℕ, Bool, List, ◌∷◌, ◌++◌, length, Ok, decimal}
use Rattle.hex.specs.Hex.{encode_lower, decode_of}
use Rattle.sem_bits.specs.Octets.{Holds}

-- The text of the bits: their count, a colon, and the lower-case hex digits of the octets that hold them.
pub record IsText (text : List ℕ) (bits : List Bool) : Type 0 where
  pub octets : List ℕ
  pub held : Holds octets bits
  pub spelled : text ≡ decimal (length bits) ++ 58 ∷ encode_lower octets

-- The text is read as these bits: their count, a colon, and hex digits of either case of the octets that hold them.
pub record ReadsAs (text : List ℕ) (bits : List Bool) : Type 0 where
  pub octets : List ℕ
  pub digits : List ℕ
  pub held : Holds octets bits
  pub spelled : text ≡ decimal (length bits) ++ 58 ∷ digits
  pub decoded : decode_of digits ≡ Ok octets
