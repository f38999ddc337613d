-- Lists that are one where their ends are.
use Rattle.std.proofs.Common.{◌≡◌, ◌∙◌, sym, ap, ℕ, ◌+◌, ◌-◌, ◌≤◌, List, ◌++◌, length, take, drop, arith}
use Rattle.std.proofs.lemmas.List.{take-append-drop, drop-drop}

-- what comes after the first k, of at most twice so many, lies in the last k
after_first : {A : Type 0} (k : ℕ) (xs : List A) → k ≤ length xs → length xs ≤ k + k → drop k xs ≡ drop (k + k - length xs) (drop (length xs - k) xs)
after_first k xs least most =
    let n : length xs - k + (k + k - length xs) ≡ k = omega arith in
    let m : k + k - length xs + (length xs - k) ≡ k = omega arith in
    sym (drop-drop (k + k - length xs) (length xs - k) xs ∙ ap (λ j. drop j xs) n)

pub ends_same : {A : Type 0} (k : ℕ) (xs ys : List A) → length xs ≡ length ys → k ≤ length xs → length xs ≤ k + k → take k xs ≡ take k ys → drop (length xs - k) xs ≡ drop (length ys - k) ys → xs ≡ ys
ends_same k xs ys same least most first last =
    let more : drop k xs ≡ drop k ys =
    after_first k xs least most ∙ ap (λ zs. drop (k + k - length xs) zs) last ∙ ap (λ n. drop (k + k - n) (drop (length ys - k) ys)) same ∙ sym (after_first k ys (omega (arith, same, least)) (omega (arith, same, most))) in
    sym (take-append-drop k xs) ∙ (λ i. first i ++ more i) ∙ take-append-drop k ys
