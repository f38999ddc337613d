-- What room a text leaves, line by line.
use Rattle.std.proofs.Common.{◌≡◌, ℕ, ◌+◌, List, length, map, drop}
use Rattle.std.specs.Prelude.{flat_map}
use Rattle.cert_text.specs.Text.{spelled}

-- by the lines that an element adds
abbrev pub LeftBy : {A : Type 0} → (A → List (List ℕ)) → List A → ℕ → ℕ → ℕ → Type 0
LeftBy f xs i left room = left + length (spelled (flat_map f xs)) ≡ room + length (spelled (flat_map f (drop i xs)))

-- by the one line that it adds
abbrev pub LeftLine : {A : Type 0} → (A → List ℕ) → List A → ℕ → ℕ → ℕ → Type 0
LeftLine f xs i left room = left + length (spelled (map f xs)) ≡ room + length (spelled (map f (drop i xs)))
