-- Octets in hex.
use Rattle.std.specs.Prelude.{◌≡◌, ℕ, List, filter, not, Ok}
use Rattle.hex.specs.Hex.{decode_of}
use Rattle.text_source.specs.Lexical.{is_space}

-- the text less its white space
abbrev pub without_space : List ℕ → List ℕ
without_space text = filter (λ octet. not (is_space octet)) text

-- the text is read as these octets: two hex digits each, with white space anywhere
abbrev pub AreOctets : List ℕ → List ℕ → Type 0
AreOctets text octets = decode_of (without_space text) ≡ Ok octets
