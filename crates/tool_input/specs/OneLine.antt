-- Texts of one line.
use Rattle.std.specs.Prelude.{◌≡◌, ◌==◌, ℕ, Bool, true, not, List}
use Rattle.std.specs.List.{list_all}

-- no line feed stands in the text
abbrev pub is_line : List ℕ → Bool
is_line text = list_all (λ octet. not (octet == 10)) text

pub record IsLine (text : List ℕ) : Type 0 where
  pub no_feed : is_line text ≡ true
