-- The value of digits.
use Rattle.std.proofs.Common.{◌≡◌, ℕ, zero, suc, ◌+◌, ◌*◌, ◌^◌, ◌<◌, ◌≤◌, List, [], ◌∷◌, length, get_or, drop, Some, None, sym, ap, ◌∙◌, refl, arith, drop-cons}
use Rattle.std.proofs.lemmas.List.{drop_all}
use Rattle.std.proofs.lemmas.Bool.{lt-ltb, le-ltb}
use Rattle.text_source.specs.Lexical.{digit, number_from, number_of}
use Rattle.text_source.specs.Scan.{value}

times : (base n : ℕ) → 0 < base → n ≤ base * n
times zero n h = absurd (omega arith)
times (suc b) n h = omega arith

-- more digits give no smaller number
grows : (base : ℕ) → 0 < base → (cs : List ℕ) (n : ℕ) → n ≤ number_from base n cs
grows base h [] n = omega arith
grows base h (c ∷ cs) n =
    let le = grows base h cs (base * n + digit c) in
    let more = times base n h in
    omega arith

pub value_some : (base : ℕ) (digits : List ℕ) (n i : ℕ) → n < 2 ^ 64 → length digits ≤ i → number_from base n (drop i digits) ≡ number_of base digits → Some n ≡ value base digits
unfolding value
value_some base digits n i lt end h =
    let e : n ≡ number_of base digits = sym (ap (λ (cs : List ℕ). number_from base n cs) (drop_all i digits end)) ∙ h in
    rw (← e, lt-ltb n (2 ^ 64) lt) refl

pub value_none : (base : ℕ) (digits : List ℕ) (n i : ℕ) → 0 < base → i < length digits → 2 ^ 64 ≤ base * n + digit (get_or digits i 0) → number_from base n (drop i digits) ≡ number_of base digits
    → None ≡ value base digits
unfolding value
value_none base digits n i some lt large h =
    let e : number_from base (base * n + digit (get_or digits i 0)) (drop (suc i) digits) ≡ number_of base digits = sym (ap (λ (cs : List ℕ). number_from base n cs) (drop-cons digits i 0 lt)) ∙ h in
    let le = grows base some (drop (suc i) digits) (base * n + digit (get_or digits i 0)) in
    rw (le-ltb (number_of base digits) (2 ^ 64) (omega arith)) refl
