-- Whether a list has an element that passes a test.
use Rattle.std.proofs.Common.{rules, ◌≡◌, ◌∙◌, ℕ, ◌+◌, Bool, true, false, List, [], ◌∷◌, ◌||◌, refl, suc, cond, not, nat_lt, length, Some, None}
use Rattle.std.specs.Prelude.{position}
use Rattle.std.specs.List.{list_any, position_or_len}

none_below : (n : ℕ) → nat_lt 0 (suc n) ≡ true
none_below n = search rules

lt_both : (n m : ℕ) → nat_lt (1 + n) (suc m) ≡ nat_lt n m
lt_both n m = search rules

place_within : {X : Type 0} (p : X → Bool) (xs : List X) → nat_lt (position_or_len p xs) (length xs) ≡ list_any p xs
place_within p [] = refl
place_within p (x ∷ xs) = by (p x) (place_within p xs)
  where
    by : (b : Bool) → nat_lt (position_or_len p xs) (length xs) ≡ list_any p xs → nat_lt (cond (not b) (1 + position_or_len p xs) 0) (suc (length xs)) ≡ (b || list_any p xs)
    by true e = none_below (length xs)
    by false e = lt_both (position_or_len p xs) (length xs) ∙ e

pub found_there : {X : Type 0} (p : X → Bool) (xs : List X) (i : ℕ) → position p xs ≡ Some i → true ≡ list_any p xs
found_there p xs i h = by (nat_lt (position_or_len p xs) (length xs)) (place_within p xs) h
  where
    by : (b : Bool) → b ≡ list_any p xs → cond b (Some (position_or_len p xs)) None ≡ Some i → true ≡ list_any p xs
    by true e h = e
    by false e h = let wrong : None ≡ Some i = h in absurd cc

pub none_there : {X : Type 0} (p : X → Bool) (xs : List X) → position p xs ≡ None → false ≡ list_any p xs
none_there p xs h = by (nat_lt (position_or_len p xs) (length xs)) (place_within p xs) h
  where
    by : (b : Bool) → b ≡ list_any p xs → cond b (Some (position_or_len p xs)) None ≡ None → false ≡ list_any p xs
    by true e h = let wrong : Some (position_or_len p xs) ≡ None = h in absurd cc
    by false e h = e
