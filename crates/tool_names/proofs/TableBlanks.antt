-- Blanks in runs of 64.
use Rattle.std.proofs.Common.{◌≡◌, ℕ, zero, suc, ◌+◌, ◌-◌, ◌*◌, ◌/◌, ◌<◌, ◌≤◌, List, ◌++◌, replicate, take, ap, ◌∙◌, append_assoc, arith}
use Rattle.std.specs.Prelude.{slice_range}
use Rattle.std.specs.Str.{IsAscii, IsCharBoundary}
use Rattle.std.proofs.lemmas.List.{replicate-append-replicate, take-replicate}
use Rattle.std.proofs.lemmas.Str.{IsCharBoundary-from_ascii}

abbrev blanks : ℕ → List ℕ
blanks n = replicate n 32

next_run : (count k : ℕ) → k < count / 64 → blanks 64 ++ blanks (count - 64 * (k + 1)) ≡ blanks (count - 64 * k)
next_run count k h =
    let same : 64 + (count - 64 * (k + 1)) ≡ count - 64 * k = omega (arith, h) in
    replicate-append-replicate 64 (count - 64 * (k + 1)) 32 ∙ ap blanks same

-- one run more
pub runs_on : (old new run whole : List ℕ) (count k : ℕ) → k < count / 64 → run ≡ blanks 64 → new ≡ old ++ run → old ++ blanks (count - 64 * k) ≡ whole → new ++ blanks (count - 64 * (k + 1)) ≡ whole
runs_on old new run whole count k h is on so =
    let left = blanks (count - 64 * (k + 1)) in
    ap (λ t. t ++ left) (on ∙ ap (λ t. old ++ t) is) ∙ append_assoc old (blanks 64) left ∙ ap (λ t. old ++ t) (next_run count k h) ∙ so

are_ascii : (n : ℕ) → IsAscii (blanks n)
are_ascii zero i = omega arith
are_ascii (suc n) zero = omega arith
are_ascii (suc n) (suc i) = are_ascii n i

-- some of 64 blanks
pub ends_at : (count : ℕ) → count ≤ 64 → IsCharBoundary (blanks 64) count
ends_at count h = IsCharBoundary-from_ascii (blanks 64) count (are_ascii 64) h

pub cut : (count : ℕ) → count ≤ 64 → slice_range (blanks 64) 0 count ≡ blanks count
cut count h =
    let same : count - 0 ≡ count = omega arith in
    ap (λ n. take n (blanks 64)) same ∙ take-replicate count 64 32 h
