-- Where the code finds the bits of a field.
use Rattle.std.proofs.Common.{◌≡◌, ◌∙◌, refl, sym, ap, subst, ℕ, ◌+◌, ◌<◌, ◌≤◌, Bool, true, false, cond, List, ◌∷◌, length, arith}
use Rattle.std.specs.Prelude.{Option, Some, None, SomeIff, nat_eq, nat_le, slice_range}
use Rattle.std.specs.Option.{option_map, option_and_then}
use Rattle.std.proofs.lemmas.Bool.Decides.{nat_tests}
use Rattle.sem_reasons.specs.Places.{begin_of, behind, cut_of, held, IsFar}

-- a field that is none of the first ones begins behind them
pub further : (only : ℕ → Option ℕ) (i j : ℕ) (js : List ℕ) (offset after : ℕ) (all : Option ℕ) → nat_eq i j ≡ false → behind offset (only j) ≡ Some after → behind offset (begin_of only i (j ∷ js)) ≡ all → behind after (begin_of only i js) ≡ all
further only i j js offset after all other next e = by (only j) next (ap (λ t. behind offset (cond t (Some 0) (option_and_then (λ n. option_map (λ m. n + m) (begin_of only i js)) (only j)))) (sym other) ∙ e)
  where
    by : (o : Option ℕ) → behind offset o ≡ Some after → behind offset (option_and_then (λ n. option_map (λ m. n + m) (begin_of only i js)) o) ≡ all → behind after (begin_of only i js) ≡ all
    by None next e = absurd (cc)
    by (Some n) next e = let sum : offset + n ≡ after = cc in all_of (begin_of only i js) sum e
      where
        all_of : (b : Option ℕ) → offset + n ≡ after → behind offset (option_map (λ m. n + m) b) ≡ all → behind after b ≡ all
        all_of None sum e = e
        all_of (Some m) sum e = let same : after + m ≡ offset + (n + m) = omega (arith, sum) in ap Some same ∙ e

-- what is far stays far
pub far_on : (only : ℕ → Option ℕ) (i j : ℕ) (js : List ℕ) (offset : ℕ) (all : Option ℕ) → nat_eq i j ≡ false → IsFar (behind offset (only j)) → behind offset (begin_of only i (j ∷ js)) ≡ all → IsFar all
far_on only i j js offset all other far e = by (only j) far (ap (λ t. behind offset (cond t (Some 0) (option_and_then (λ n. option_map (λ m. n + m) (begin_of only i js)) (only j)))) (sym other) ∙ e)
  where
    by : (o : Option ℕ) → IsFar (behind offset o) → behind offset (option_and_then (λ n. option_map (λ m. n + m) (begin_of only i js)) o) ≡ all → IsFar all
    by None far e = subst IsFar e tt
    by (Some n) far e = all_of (begin_of only i js) e
      where
        all_of : (b : Option ℕ) → behind offset (option_map (λ m. n + m) b) ≡ all → IsFar all
        all_of None e = subst IsFar e tt
        all_of (Some m) e = let more : 2147483648 ≤ offset + (n + m) = omega (arith, far) in subst IsFar e more

pub here : (only : ℕ → Option ℕ) (i j : ℕ) (js : List ℕ) (offset : ℕ) (all : Option ℕ) → nat_eq i j ≡ true → behind offset (begin_of only i (j ∷ js)) ≡ all → all ≡ Some offset
here only i j js offset all same e =
    let sum : offset + 0 ≡ offset = omega arith in
    sym e ∙ (ap (λ t. behind offset (cond t (Some 0) (option_and_then (λ n. option_map (λ m. n + m) (begin_of only i js)) (only j)))) same ∙ ap Some sum)

-- no bits are held that far
pub none_held : (order : List ℕ) (only : ℕ → Option ℕ) (bits : List Bool) (i : ℕ) → length bits < 2147483648 → IsFar (begin_of only i order) → held order only bits i ≡ None
none_held order only bits i few far = by (begin_of only i order) far
  where
    cut_none : (offset count : ℕ) → 2147483648 ≤ offset → cut_of bits offset count ≡ None
    cut_none offset count far = let no : nat_le (offset + count) (length bits) ≡ false = grind (arith, nat_tests, few, far) in ap (λ t. cond t (Some (slice_range bits offset (offset + count))) None) no

    none_of : (offset : ℕ) (o : Option ℕ) → 2147483648 ≤ offset → option_and_then (λ count. cut_of bits offset count) o ≡ None
    none_of offset None far = refl
    none_of offset (Some count) far = cut_none offset count far

    by : (o : Option ℕ) → IsFar o → option_and_then (λ offset. option_and_then (λ count. cut_of bits offset count) (only i)) o ≡ None
    by None far = refl
    by (Some offset) far = none_of offset (only i) far

pub held_from : (order : List ℕ) (only : ℕ → Option ℕ) (bits : List Bool) (i offset : ℕ) (o : Option ℕ) → begin_of only i order ≡ Some offset → only i ≡ o → held order only bits i ≡ option_and_then (λ count. cut_of bits offset count) o
held_from order only bits i offset o begins is =
    ap (option_and_then (λ z. option_and_then (λ count. cut_of bits z count) (only i))) begins ∙ ap (option_and_then (λ count. cut_of bits offset count)) is

pub uncut : (bits : List Bool) (offset count : ℕ) → length bits < offset + count → cut_of bits offset count ≡ None
uncut bits offset count few = let no : nat_le (offset + count) (length bits) ≡ false = grind (arith, nat_tests, few) in ap (λ t. cond t (Some (slice_range bits offset (offset + count))) None) no

pub cut_is : (bits : List Bool) (offset count end : ℕ) (o : Option (List Bool)) → end ≡ offset + count → offset + count ≤ length bits → SomeIff o ((offset ≤ end) × (end ≤ length bits)) (slice_range bits offset end) → o ≡ cut_of bits offset count
cut_is bits offset count end o sum within made =
    let yes : nat_le (offset + count) (length bits) ≡ true = grind (arith, nat_tests, within) in
    found o (omega (arith, sum), omega (arith, sum, within)) made ∙ ((λ k. Some (slice_range bits offset (sum k))) ∙ ap (λ t. cond t (Some (slice_range bits offset (offset + count))) None) (sym yes))
  where
    found : (o : Option (List Bool)) → (offset ≤ end) × (end ≤ length bits) → SomeIff o ((offset ≤ end) × (end ≤ length bits)) (slice_range bits offset end) → o ≡ Some (slice_range bits offset end)
    found (Some x) both h = ap Some h.1
    found None both h = absurd (h both)
