-- Entries and where each path is found.
use Rattle.std.specs.Prelude.{◌≡◌, ℕ, suc, Bool, List, [], ◌∷◌, ◌++◌, Option, None, Some, String, map, option_map, string_bytes, is_some, IsSome, if◌then◌else◌}
use Rattle.std.specs.List.{AllByRecursion}
use Rattle.std.specs.Map.{keys_of}
use Rattle.std.specs.Str.{bytes_eq}
use Rattle.sem_context.specs.Entries.{Entries, AreDistinct, bits_at}

-- what clauses see of the entries as they are kept
abbrev pub shown : {Z : Type 0} → List (String Z × List Bool) → Entries
shown es = map (λ e. (string_bytes e.0, e.1)) es

-- the place of the first entry with the path
abbrev pub place_of : Entries → List ℕ → Option ℕ
place_of [] path = None
place_of (e ∷ es) path = if bytes_eq path e.0 then Some 0 else option_map suc (place_of es path)

-- No path stands twice, and the look-up finds the place of each.
pub record ArePlaced (es : Entries) (find : List ℕ → Option ℕ) : Type 0 where
  pub distinct : AreDistinct es
  pub finds : (path : List ℕ) → find path ≡ place_of es path

-- each path of others is there
abbrev pub HasPaths : Entries → Entries → Type 0
HasPaths es others = AllByRecursion (λ path. IsSome (bits_at es path)) (keys_of others)

-- the entries with the path, which goes last without bits unless it is there
abbrev pub with_path : Entries → List ℕ → Entries
with_path es path = if is_some (bits_at es path) then es else es ++ (path, []) ∷ []
