-- Runs of octets that pass a test.
use Rattle.std.proofs.Common.{◌≡◌, ℕ, suc, ◌+◌, ◌-◌, ◌*◌, ◌^◌, ◌<◌, ◌≤◌, List, [], ◌∷◌, length, drop, take, Bool, true, false, ◌==◌, refl, sym, ap, subst, ◌∙◌, arith}
use Rattle.std.proofs.lemmas.Bool.{eqb-true}
use Rattle.std.proofs.Math.Nat.{pow-le-pow_right, pow-succ'}
use Rattle.text_source.specs.Lexical as s
use Rattle.text_source.specs.Lexical.{Run, Ends, is_bit, digit, number_from, number_of, text_of}
use Rattle.text_source.specs.Scan.{after_run}

pub run_is : (test : ℕ → Bool) (ts : List ℕ) → Run test ts (after_run test ts)
unfolding after_run
run_is test [] = s.end tt
run_is test (c ∷ cs) = by_test (test c) refl (run_is test cs)
  where
    by_test : (b : Bool) → test c ≡ b → Run test cs (after_run test cs) → Run test (c ∷ cs) (after_run test (c ∷ cs))
    by_test true e run = rw e (s.more e run)
    by_test false e run = rw e (s.end e)

after_end : (test : ℕ → Bool) (to : List ℕ) → Ends test to → after_run test to ≡ to
unfolding after_run
after_end test [] e = refl
after_end test (c ∷ cs) e = rw e refl

-- a run ends at one place
pub run_of : {test : ℕ → Bool} {from to : List ℕ} → Run test from to → after_run test from ≡ to
unfolding after_run
run_of {test = test} {to = to} (s.end e) = after_end test to e
run_of (s.more e h) = rw e (run_of h)

pub run_len : {test : ℕ → Bool} {from to : List ℕ} → Run test from to → length to ≤ length from
run_len (s.end e) = omega arith
run_len (s.more e h) = let le = run_len h in omega arith

-- one octet before
pub text_more : (c : ℕ) (from to : List ℕ) → length to ≤ length from → text_of (c ∷ from) to ≡ c ∷ text_of from to
text_more c from to le =
    let e : suc (length from) - length to ≡ suc (length from - length to) = omega arith in
    ap (λ (n : ℕ). take n (c ∷ from)) e

pub text_end : (to : List ℕ) → text_of to to ≡ []
text_end to = let e : length to - length to ≡ 0 = omega arith in ap (λ (n : ℕ). take n to) e

-- what is left after a run is left after its octets
pub run_drop : {test : ℕ → Bool} {from to : List ℕ} → Run test from to → drop (length from - length to) from ≡ to
run_drop {to = to} (s.end e) = let zero_is : length to - length to ≡ 0 = omega arith in ap (λ (n : ℕ). drop n to) zero_is
run_drop {to = to} (s.more {c = c} {from = from} e h) =
    let le = run_len h in
    let more : suc (length from) - length to ≡ suc (length from - length to) = omega arith in
    ap (λ (n : ℕ). drop n (c ∷ from)) more ∙ run_drop h

bit_small : (c : ℕ) → is_bit c ≡ true → digit c ≤ 1
bit_small c e = by_test (c == 48) refl
  where
    by_test : (b : Bool) → (c == 48) ≡ b → digit c ≤ 1
    by_test true h = subst (λ (d : ℕ). digit d ≤ 1) (sym (eqb-true c 48 h)) (omega arith)
    by_test false h = let other : (c == 49) ≡ true = rw h at e in subst (λ (d : ℕ). digit d ≤ 1) (sym (eqb-true c 49 other)) (omega arith)

-- so many bits spell a number below a power of two
bits_below : {from to : List ℕ} → Run is_bit from to → (n k : ℕ) → n < k → number_from 2 n (text_of from to) < k * 2 ^ length (text_of from to)
bits_below {to = to} (s.end e) n k lt = rw (text_end to) (omega arith)
bits_below {to = to} (s.more {c = c} {from = from} e h) n k lt =
    let small = bit_small c e in
    let rec = bits_below h (2 * n + digit c) (2 * k) (omega arith) in
    let power = pow-succ' 2 (length (text_of from to)) in
    rw (text_more c from to (run_len h), power) (omega arith)

-- up to 64 bits fit 64 bits
pub bits_fit : {from to : List ℕ} → Run is_bit from to → length (text_of from to) ≤ 64 → number_of 2 (text_of from to) < 2 ^ 64
bits_fit {from = from} {to = to} run le =
    let below = bits_below run 0 1 (omega arith) in
    let power : 2 ^ length (text_of from to) ≤ 2 ^ 64 = pow-le-pow_right {n = 2} (omega arith) {i = length (text_of from to)} {j = 64} le in
    omega arith
