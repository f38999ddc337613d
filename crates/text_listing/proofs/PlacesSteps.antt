-- Lines and columns, one octet further.
use Rattle.std.proofs.Common.{◌≡◌, ℕ, ◌+◌, ◌-◌, ◌<◌, ◌≤◌, Bool, true, false, cond, List, [], ◌∷◌, ◌++◌, length, take, drop, get_or, get_or-take, get_or-drop, refl, ap, subst, sym, ◌∙◌, arith}
use Rattle.std.specs.Prelude.{count_by, fold}
use Rattle.std.specs.List.{after_last}
use Rattle.std.proofs.lemmas.Bool.{ne_eqb, eq-eqb}
use Rattle.std.proofs.lemmas.List.{take_more}
use Rattle.std.proofs.lemmas.List.Sums.{count_by_more_no, count_by_more_yes}
use Rattle.text_source.specs.Places.{line_of, column_of, is_line_end, begins_character}
use Rattle.text_source.proofs.PlacesLemmas.{after_last_end, after_last_more}

-- the place of the octet, and bounds on it
pub record Stands (octets : List ℕ) (i line column : ℕ) : Type 0 where
  pub line_is : line ≡ line_of octets i
  pub column_is : column ≡ column_of octets i
  pub short_line : line ≤ 1 + i
  pub short_column : column ≤ 1 + i

fold_end : {A B : Type 0} (f : B → A → B) (start : B) (xs : List A) (x : A) → fold f start (xs ++ x ∷ []) ≡ f (fold f start xs) x
fold_end f start [] x = refl
fold_end f start (y ∷ xs) x = fold_end f (f start y) xs x

count_end : (p : ℕ → Bool) (xs : List ℕ) (x : ℕ) → count_by p (xs ++ x ∷ []) ≡ count_by p xs + cond (p x) 1 0
count_end p xs x = fold_end (λ n y. n + cond (p y) 1 0) 0 xs x

-- what follows one octet, `c`
module _ (octets : List ℕ) (i there c line column next down : ℕ) (inside : i < length octets) (further : there ≡ i + 1) (read : c ≡ get_or octets i 0) (so : Stands octets i line column) where
  pub after_end : c ≡ 10 → next ≡ line + 1 → down ≡ 1 → Stands octets there next down
  after_end e n d =
      let test : is_line_end (get_or octets i 0) ≡ true = eq-eqb (get_or octets i 0) 10 (sym read ∙ e) in
      let more = count_by_more_yes is_line_end octets i 0 inside test in
      let none : after_last is_line_end (take (i + 1) octets) ≡ [] = ap (after_last is_line_end) (take_more octets i 0 inside) ∙ after_last_end is_line_end (take i octets) (get_or octets i 0) test in
      let stands : Stands octets (i + 1) next down = record { line_is = omega (arith, n, so.line_is, more); column_is = d ∙ ap (λ xs. 1 + count_by begins_character xs) (sym none); short_line = omega (arith, n, so.short_line); short_column = omega (arith, d) } in
      rw further stands

  pub after_other : (c ≡ 10 → ⊥) → next ≡ line → down ≡ column + cond (begins_character c) 1 0 → down ≤ column + 1 → Stands octets there next down
  after_other e n d le =
      let test : is_line_end (get_or octets i 0) ≡ false = ne_eqb (get_or octets i 0) 10 (λ h. e (read ∙ h)) in
      let same = count_by_more_no is_line_end octets i 0 inside test in
      let more : after_last is_line_end (take (i + 1) octets) ≡ after_last is_line_end (take i octets) ++ get_or octets i 0 ∷ [] = ap (after_last is_line_end) (take_more octets i 0 inside) ∙ after_last_more is_line_end (take i octets) (get_or octets i 0) test in
      let counted : count_by begins_character (after_last is_line_end (take (i + 1) octets)) ≡ count_by begins_character (after_last is_line_end (take i octets)) + cond (begins_character (get_or octets i 0)) 1 0 = ap (count_by begins_character) more ∙ count_end begins_character (after_last is_line_end (take i octets)) (get_or octets i 0) in
      let added : down ≡ column + cond (begins_character (get_or octets i 0)) 1 0 = subst (λ (x : ℕ). down ≡ column + cond (begins_character x) 1 0) read d in
      let stands : Stands octets (i + 1) next down = record { line_is = omega (arith, n, so.line_is, same); column_is = omega (arith, added, so.column_is, counted); short_line = omega (arith, n, so.short_line); short_column = omega (arith, le, so.short_column) } in
      rw further stands

pub first_counts : (b : Bool) (column next : ℕ) → b ≡ true → next ≡ column + 1 → next ≡ column + cond b 1 0
first_counts true column next e n = n
first_counts false column next e n = absurd cc

pub other_counts : (b : Bool) (column next : ℕ) → b ≡ false → next ≡ column → next ≡ column + cond b 1 0
other_counts true column next e n = absurd cc
other_counts false column next e n = omega (arith, n)

-- an octet of a part of the text
pub read_in_part : (octets : List ℕ) (from to i : ℕ) → i < to - from → get_or (take (to - from) (drop from octets)) i 0 ≡ get_or octets (from + i) 0
read_in_part octets from to i h = get_or-take (to - from) (drop from octets) i 0 h ∙ get_or-drop from octets i 0
