use Rattle.std.specs.Prelude.{◌≡◌, ℕ, ◌^◌, ◌<◌, Bool, false, List, ◌++◌, length, take, replicate}
use Rattle.std.specs.List.{flat_map}
use Rattle.hex.specs.Hex.{IsBytes}
use Rattle.sem_bits.specs.Number.{enc}

-- the bits of octets, each with its highest bit first
abbrev pub bits_of : List ℕ → List Bool
bits_of octets = flat_map (λ o. enc 8 o) octets

-- The octets hold the bits, and after them fewer than eight zero bits up to a whole octet.
pub record Holds (octets : List ℕ) (bits : List Bool) : Type 0 where
  pub octets_fit : IsBytes octets
  pub padding : ℕ
  pub few : padding < 8
  pub filled : bits_of octets ≡ bits ++ replicate padding false

-- What `Bits` keeps: octets that hold the first so many of their bits, as many as there are.
pub record Kept (octets : List ℕ) (count : ℕ) : Type 0 where
  pub limit : count < 2 ^ 31
  pub counted : length (take count (bits_of octets)) ≡ count
  pub held : Holds octets (take count (bits_of octets))
