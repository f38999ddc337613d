-- What adds up.
use Rattle.std.proofs.Common.{◌≡◌, refl, sym, ◌∙◌, ap, ℕ, ◌+◌, ◌<◌, ◌≤◌, zero, suc, Bool, true, false, cond, List, [], ◌∷◌, length, nat_eq, arith}
use Rattle.std.specs.Prelude.{Option, Some, None, slice_get}
use Rattle.std.specs.List.{cons_option, filter_map, range_with_len, sum_by}
use Rattle.std.proofs.lemmas.Bool.{eq-eqb, eqb-true}
use Rattle.std.proofs.lemmas.List.Sums.{sum_by-cons}
use Rattle.sem_filling.specs.Fillings.{packed}
use Rattle.sem_filling.specs.declared.filling.Filling.{Filling, out-Filling}
use Rattle.tool_items.specs.Counts.{bits_at, bits_of_field, inner_in, insides, of_format, tally, tally_format}
use Rattle.tool_items.specs.Laws.{bits_inside}
use Rattle.tool_items.specs.Sums.{AreBelow, no_level}

abbrev bits : Filling → ℕ
bits f = length (packed f)

-- ---- formats

both : (g h : ℕ → ℕ) (ns : List ℕ) → sum_by (λ n. g n + h n) ns ≡ sum_by g ns + sum_by h ns
both g h [] = refl
both g h (n ∷ ns) = sum_by-cons (λ m. g m + h m) n ns ∙ ap (λ z. (g n + h n) + z) (both g h ns) ∙ by (g n) (h n) (sum_by g ns) (sum_by h ns) ∙ (λ i. sym (sum_by-cons g n ns) i + sym (sum_by-cons h n ns) i)
  where
    by : (a b c d : ℕ) → (a + b) + (c + d) ≡ (a + c) + (b + d)
    by a b c d = omega arith

alike : (g h : ℕ → ℕ) (ns : List ℕ) → ((n : ℕ) → g n ≡ h n) → sum_by g ns ≡ sum_by h ns
alike g h [] same = refl
alike g h (n ∷ ns) same = sum_by-cons g n ns ∙ (λ i. same n i + alike g h ns same i) ∙ sym (sum_by-cons h n ns)

none_more : (n : ℕ) → n ≡ 0 + n
none_more n = omega arith

differs : (k n : ℕ) (b : ℕ) (t : Bool) → nat_eq k n ≡ t → (k ≡ n → ⊥) → cond t b 0 ≡ 0
differs k n b true e other = absurd (other (eqb-true k n e))
differs k n b false e other = refl

none_here : (k b a c : ℕ) → k < a → sum_by (λ n. cond (nat_eq k n) b 0) (range_with_len a c) ≡ 0
none_here k b a zero lt = refl
none_here k b a (suc c) lt =
    sum_by-cons (λ n. cond (nat_eq k n) b 0) a (range_with_len (a + 1) c)
    ∙ (λ i. differs k a b (nat_eq k a) refl (λ e. absurd (omega (arith, e, lt))) i + none_here k b (a + 1) c (omega (arith, lt)) i)

-- from a on, k stands once among so many numbers
first_or_later : (k b a c : ℕ) (t : Bool) → nat_eq k a ≡ t → a ≤ k → (a + 1 ≤ k → sum_by (λ n. cond (nat_eq k n) b 0) (range_with_len (a + 1) c) ≡ b) → cond t b 0 + sum_by (λ n. cond (nat_eq k n) b 0) (range_with_len (a + 1) c) ≡ b
first_or_later k b a c true e le later = let same : k ≡ a = eqb-true k a e in omega (arith, none_here k b (a + 1) c (omega (arith, same)))
first_or_later k b a c false e le later =
    let more : a + 1 ≤ k = above k a le (λ is. let wrong : true ≡ false = sym (eq-eqb k a (sym is)) ∙ e in absurd (cc)) in
    omega (arith, later more)
  where
    above : (k a : ℕ) → a ≤ k → (a ≡ k → ⊥) → a + 1 ≤ k
    above zero zero le other = absurd (other refl)
    above zero (suc a) le other = absurd (omega (arith, le))
    above (suc k) zero le other = omega arith
    above (suc k) (suc a) le other = let less = above k a (omega (arith, le)) (λ e. other (ap suc e)) in omega (arith, less)

one_here : (k b a c : ℕ) → a ≤ k → k < a + c → sum_by (λ n. cond (nat_eq k n) b 0) (range_with_len a c) ≡ b
one_here k b a zero le lt = absurd (omega (arith, le, lt))
one_here k b a (suc c) le lt =
    sum_by-cons (λ n. cond (nat_eq k n) b 0) a (range_with_len (a + 1) c) ∙ first_or_later k b a c (nat_eq k a) refl le (λ more. one_here k b (a + 1) c more (omega (arith, lt)))

one_format : (n : ℕ) (f : Filling) (fs : List Filling) (t : Bool) → nat_eq (out-Filling f).format n ≡ t → (tally_format n (f ∷ fs)).bits ≡ cond t (bits f) 0 + (tally_format n fs).bits
one_format n f fs true e = ap (λ t. sum_by bits (cond t (f ∷ of_format n fs) (of_format n fs))) e ∙ sum_by-cons bits f (of_format n fs)
one_format n f fs false e = ap (λ t. sum_by bits (cond t (f ∷ of_format n fs) (of_format n fs))) e ∙ none_more (sum_by bits (of_format n fs))

pub formats_add_up : (fs : List Filling) (count : ℕ) → ((i : ℕ) (f : Filling) → slice_get fs i ≡ Some f → (out-Filling f).format < count) → sum_by (λ n. (tally_format n fs).bits) (range_with_len 0 count) ≡ (tally fs).bits
formats_add_up [] count all = zeros (range_with_len 0 count)
  where
    zeros : (ns : List ℕ) → sum_by (λ n. 0) ns ≡ 0
    zeros [] = refl
    zeros (n ∷ ns) = zeros ns
formats_add_up (f ∷ fs) count all =
    alike _ _ (range_with_len 0 count) (λ n. one_format n f fs (nat_eq (out-Filling f).format n) refl)
    ∙ both (λ n. cond (nat_eq (out-Filling f).format n) (bits f) 0) (λ n. (tally_format n fs).bits) (range_with_len 0 count)
    ∙ (λ i. one_here (out-Filling f).format (bits f) 0 count (omega arith) (let lt = all 0 f refl in omega (arith, lt)) i + formats_add_up fs count (λ j g at. all (suc j) g at) i) ∙ sym (sum_by-cons bits f fs)

-- ---- what is inside

one_inside : (o : Option Filling) (gs : List Filling) → sum_by bits (cons_option o gs) ≡ bits_inside o + sum_by bits gs
one_inside None gs = none_more (sum_by bits gs)
one_inside (Some g) gs = sum_by-cons bits g gs

all_inside : (p : ℕ) (fs : List Filling) → ((i : ℕ) (f : Filling) → slice_get fs i ≡ Some f → bits_at p f ≡ bits_inside (inner_in p f)) → sum_by bits (filter_map (inner_in p) fs) ≡ sum_by (bits_at p) fs
all_inside p [] all = refl
all_inside p (f ∷ fs) all = one_inside (inner_in p f) (filter_map (inner_in p) fs) ∙ (λ i. sym (all 0 f refl) i + all_inside p fs (λ j g at. all (suc j) g at) i) ∙ sym (sum_by-cons (bits_at p) f fs)

pub insides_add_up : (fs : List Filling) (n p : ℕ) → ((i : ℕ) (f : Filling) → slice_get (of_format n fs) i ≡ Some f → bits_at p f ≡ bits_inside (inner_in p f)) → (tally (insides n p fs)).bits ≡ bits_of_field n p fs
insides_add_up fs n p all = all_inside p (of_format n fs) all

-- ---- of no fillings

pub none_summed : AreBelow [] no_level
none_summed [] = record { all_is = refl; formats_are = λ n. refl; places_are = λ n p. refl }
none_summed (at ∷ path) = none_summed path
