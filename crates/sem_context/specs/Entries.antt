-- A context: the bits that fields had last, by their paths, in order.
use Rattle.std.specs.Prelude.{◌≡◌, ℕ, zero, suc, Bool, List, [], ◌∷◌, ◌++◌, Option, fold, map, if◌then◌else◌}
use Rattle.std.specs.List.{IsDistinct}
use Rattle.std.specs.Map.{lookup, keys_of}
use Rattle.std.specs.Str.{bytes_eq}

-- paths, each as its octets, with their bits
abbrev pub Entries : Type 0
Entries = List (List ℕ × List Bool)

-- the bits at a path
abbrev pub bits_at : Entries → List ℕ → Option (List Bool)
bits_at es path = lookup (bytes_eq path) es

-- no path stands twice
abbrev pub AreDistinct : Entries → Type 0
AreDistinct es = IsDistinct bytes_eq (keys_of es)

-- The entries with bits at a path: a path that is there keeps its place, and a new one goes last.
abbrev pub with_entry : Entries → List ℕ → List Bool → Entries
with_entry [] path bits = (path, bits) ∷ []
with_entry (e ∷ es) path bits = if bytes_eq path e.0 then (e.0, bits) ∷ es else e ∷ with_entry es path bits

-- the entries with bits in the one at a place, if there is one
abbrev pub with_bits_at : Entries → ℕ → List Bool → Entries
with_bits_at [] place bits = []
with_bits_at (e ∷ es) zero bits = (e.0, bits) ∷ es
with_bits_at (e ∷ es) (suc place) bits = e ∷ with_bits_at es place bits

-- these bits are those of entries whose paths come first among the paths
pub record IsFront (paths : List (List ℕ)) (values : List (List Bool)) (es : Entries) : Type 0 where
  pub values_are : values ≡ map (λ e. e.1) es
  pub rest : List (List ℕ)
  pub paths_are : paths ≡ keys_of es ++ rest

-- the entries with each of others in turn
abbrev pub overridden : Entries → Entries → Entries
overridden es others = fold (λ done e. with_entry done e.0 e.1) es others
