-- Names of methods, fields and parameters.
use Rattle.std.specs.Prelude.{ℕ, ◌==◌, ◌&&◌, ◌||◌, Bool, false, List, [], ◌∷◌}
use Rattle.std.specs.Char.{is_ascii_alphabetic, is_ascii_alphanumeric}
use Rattle.std.specs.List.{list_all}

-- a letter, a digit or an underscore
abbrev pub is_name_octet : ℕ → Bool
is_name_octet b = is_ascii_alphanumeric b || b == 95

-- a letter, then letters, digits and underscores (RFC 4997)
abbrev pub is_name : List ℕ → Bool
is_name [] = false
is_name (b ∷ bs) = is_ascii_alphabetic b && list_all is_name_octet bs
