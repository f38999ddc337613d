-- Lines and columns, one octet further.
use Rattle.std.proofs.Common.{◌≡◌, ℕ, ◌+◌, ◌-◌, List, [], ◌∷◌, ◌++◌, length, drop, Bool, true, false, not, cond, ap, ◌∙◌, arith, length-append}
use Rattle.std.proofs.lemmas.List.{reverse-append, drop-append-le}
use Rattle.std.proofs.Math.ListN.{drop_of_length-le}
use Rattle.std.proofs.lemmas.List.Sums.{suffix_len-le-length}
use Rattle.std.specs.List.{after_last, suffix_len, prefix_len}

suffix_len-end : (p : ℕ → Bool) (xs : List ℕ) (x : ℕ) → suffix_len p (xs ++ x ∷ []) ≡ cond (p x) (1 + suffix_len p xs) 0
suffix_len-end p xs x = ap (prefix_len p) (reverse-append xs (x ∷ []))

-- after an element that passes
pub after_last_end : (p : ℕ → Bool) (xs : List ℕ) (x : ℕ) → p x ≡ true → after_last p (xs ++ x ∷ []) ≡ []
after_last_end p xs x e =
    let fails : not (p x) ≡ false = ap not e in
    let none : suffix_len (λ y. not (p y)) (xs ++ x ∷ []) ≡ 0 = suffix_len-end (λ y. not (p y)) xs x ∙ ap (λ b. cond b (1 + suffix_len (λ y. not (p y)) xs) 0) fails in
    drop_of_length-le (xs ++ x ∷ []) {i = length (xs ++ x ∷ []) - suffix_len (λ y. not (p y)) (xs ++ x ∷ [])} (omega arith)

-- after an element that does not
pub after_last_more : (p : ℕ → Bool) (xs : List ℕ) (x : ℕ) → p x ≡ false → after_last p (xs ++ x ∷ []) ≡ after_last p xs ++ x ∷ []
after_last_more p xs x e =
    let passes : not (p x) ≡ true = ap not e in
    let more : suffix_len (λ y. not (p y)) (xs ++ x ∷ []) ≡ 1 + suffix_len (λ y. not (p y)) xs = suffix_len-end (λ y. not (p y)) xs x ∙ ap (λ b. cond b (1 + suffix_len (λ y. not (p y)) xs) 0) passes in
    let le = suffix_len-le-length (λ y. not (p y)) xs in
    let len = length-append xs (x ∷ []) in
    let same : length (xs ++ x ∷ []) - suffix_len (λ y. not (p y)) (xs ++ x ∷ []) ≡ length xs - suffix_len (λ y. not (p y)) xs = omega arith in
    ap (λ (n : ℕ). drop n (xs ++ x ∷ [])) same ∙ drop-append-le (length xs - suffix_len (λ y. not (p y)) xs) xs (x ∷ []) (omega arith)
