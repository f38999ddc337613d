-- A name by its parts.
use Rattle.std.proofs.Common.{◌≡◌, ℕ, suc, ◌-◌, ◌≤◌, ◌&&◌, true, List, [], ◌∷◌, length, take, drop, get_or, sym, ap, ◌∙◌, arith}
use Rattle.std.proofs.lemmas.List.{take_all}
use Rattle.std.specs.Char.{is_ascii_alphabetic}
use Rattle.std.specs.List.{list_all}
use Rattle.text_source.specs.Names.{is_name, is_name_octet}

-- a name by its first octet and the others
pub name_parts : (xs : List ℕ) → 1 ≤ length xs → is_ascii_alphabetic (get_or xs 0 0) ≡ true → list_all is_name_octet (take (length xs - 1) (drop 1 xs)) ≡ is_name xs
name_parts [] l h = absurd (omega arith)
name_parts (x ∷ xs) l h =
    let n : suc (length xs) - 1 ≡ length xs = omega arith in
    ap (λ k. list_all is_name_octet (take k xs)) n ∙ ap (list_all is_name_octet) (take_all (length xs) xs (omega arith)) ∙ (λ i. sym h i && list_all is_name_octet xs)
