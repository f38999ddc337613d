-- How many levels fillings have.
use Rattle.std.specs.Prelude.{ℕ, ◌+◌, max, List, [], ◌∷◌, map, unwrap_or}
use Rattle.sem_filling.specs.declared.filling.Filling.{Filling}
use Rattle.sem_filling.specs.declared.filling.FilledField.TheOpen.{FilledField-F, Filling-F}
use Rattle.sem_filling.specs.declared.filling.FilledField.TheFolds.{fold-Filling}

-- the greatest of some numbers, 0 of none
abbrev pub greatest : List ℕ → ℕ
greatest [] = 0
greatest (n ∷ ns) = max n (greatest ns)

abbrev pub levels_inside : FilledField-F ℕ ℕ → ℕ
levels_inside g = unwrap_or g.inner 0

abbrev pub levels_with : Filling-F ℕ ℕ → ℕ
levels_with f = greatest f.fields + 1

-- a filling's own level, and as many as stand inside one of its fields at most
abbrev pub levels : Filling → ℕ
levels = fold-Filling ℕ ℕ levels_inside levels_with

-- those of the deepest of some fillings
abbrev pub deepest : List Filling → ℕ
deepest fs = greatest (map levels fs)
