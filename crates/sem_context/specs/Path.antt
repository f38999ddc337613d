-- The path of a field: the names of the fields from the top method down, joined by dots.
use Rattle.std.specs.Prelude.{◌≡◌, ℕ, ◌<◌, List, length, IsTrue}
use Rattle.std.specs.List.{AllByRecursion, join_with_byte}
use Rattle.text_source.specs.Names.{is_name}

-- one or more names, joined by dots
pub record IsPath (path : List ℕ) : Type 0 where
  pub names : List (List ℕ)
  pub some : 0 < length names
  pub each : AllByRecursion (λ name. IsTrue (is_name name)) names
  pub joined : path ≡ join_with_byte 46 names
