-- Lists that grow by one entry at each turn of a loop.
use Rattle.std.proofs.Common.{◌≡◌, ℕ, suc, ◌+◌, ◌-◌, ◌<◌, ◌≤◌, List, [], ◌∷◌, ◌++◌, length, drop, get_or, map, ap, sym, ◌∙◌, append_assoc, arith}
use Rattle.std.specs.Prelude.{flat_map}
use Rattle.std.specs.List.{enumerate_from, range_with_len}
use Rattle.std.proofs.lemmas.List.{append-nil, drop_more, drop_all}

-- what a function gives for each number from one on
pub one_more : {B : Type 0} (f : ℕ → B) (xs new all : List B) (i n end : ℕ) (x : B) → end ≡ n → i < end → x ≡ f i → new ≡ xs ++ x ∷ [] → xs ++ map f (range_with_len i (n - i)) ≡ all → new ++ map f (range_with_len (i + 1) (n - (i + 1))) ≡ all
one_more f xs new all i n end x same h e g so =
    let one : n - i ≡ suc (n - (i + 1)) = omega (arith, same, h) in
    let left = map f (range_with_len (i + 1) (n - (i + 1))) in
    ap (λ ys. ys ++ left) (g ∙ ap (λ y. xs ++ y ∷ []) e) ∙ append_assoc xs (f i ∷ []) left ∙ ap (λ k. xs ++ map f (range_with_len i k)) (sym one) ∙ so

-- the list so far, and what a function gives for each entry that is left, are the whole
abbrev pub Goes : {A B : Type 0} → (ℕ × A → List B) → List A → ℕ → List B → List B → Type 0
Goes f xs i so_far whole = so_far ++ flat_map f (enumerate_from i (drop i xs)) ≡ whole

pub goes_on : {A B : Type 0} (f : ℕ × A → List B) (xs : List A) (i : ℕ) (x : A) (so_far next whole : List B) → i < length xs → x ≡ get_or xs i x → Goes f xs i so_far whole → next ≡ so_far ++ f (i, x) → Goes f xs (i + 1) next whole
goes_on f xs i x so_far next whole h e so n =
    let here : drop i xs ≡ x ∷ drop (i + 1) xs = drop_more xs i x h ∙ ap (λ y. y ∷ drop (i + 1) xs) (sym e) in
    let left = flat_map f (enumerate_from (i + 1) (drop (i + 1) xs)) in
    ap (λ t. t ++ left) n ∙ append_assoc so_far (f (i, x)) left ∙ ap (λ ys. so_far ++ flat_map f (enumerate_from i ys)) (sym here) ∙ so

pub goes_end : {A B : Type 0} (f : ℕ × A → List B) (xs : List A) (i : ℕ) (so_far whole : List B) → length xs ≤ i → Goes f xs i so_far whole → so_far ≡ whole
goes_end f xs i so_far whole h so = sym (append-nil so_far) ∙ ap (λ ys. so_far ++ flat_map f (enumerate_from i ys)) (sym (drop_all i xs h)) ∙ so
