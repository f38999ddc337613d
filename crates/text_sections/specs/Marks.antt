-- Numbers for names, by which they are seen to differ.
use Rattle.std.specs.Prelude.{◌+◌, ◌*◌, ◌%◌, ℕ, List, fold}

-- the number of a name, which other names may have, too
abbrev pub mark_of : List ℕ → ℕ
mark_of name = fold (λ mark octet. (mark * 31 + octet) % 2039) 0 name
