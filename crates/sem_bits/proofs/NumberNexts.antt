-- Bits that come next, compared by numbers of up to 64 bits.
use Rattle.std.proofs.Common.{◌≡◌, ◌∙◌, refl, sym, ap, subst, ℕ, ◌+◌, ◌-◌, ◌≤◌, min, Bool, true, false, List, ◌++◌, length, take, drop, arith}
use Rattle.std.specs.Prelude.{◌↔◌, IsTrue, slice_range, Option, Some, None, nat_eq, not}
use Rattle.std.specs.Option.{SomeIff, option_eq}
use Rattle.std.proofs.lemmas.Bool.Decides.{nat_tests}
use Rattle.std.proofs.lemmas.List.{length-drop, length-take, length-take-le}
use Rattle.sem_bits.specs.Number.{num, enc}
use Rattle.sem_bits.specs.Cursor.{Advances}
use Rattle.sem_bits.proofs.CursorLists.{take_add, length_part, advances}
use Rattle.sem_bits.proofs.Numbers.{enc-num}
use Rattle.sem_bits.proofs.OctetsKept.{range_view}

-- what a look at so many bits shows where they are there
pub peeked : (o : Option ℕ) (P : Type 0) (v : ℕ) → SomeIff o P v → P → o ≡ Some v
peeked None P v never p = absurd (never p)
peeked (Some x) P v is p = ap Some is.1

room : (all : List Bool) (d c : ℕ) → d + c ≤ length all → c ≤ length (drop d all)
room all d c h = omega (arith, h, length-drop d all)

-- parts of one number and length are one
same_part : (a b : List Bool) (d c : ℕ) → d + c ≤ length a → d + c ≤ length b → num (slice_range a d (d + c)) ≡ num (slice_range b d (d + c)) → slice_range a d (d + c) ≡ slice_range b d (d + c)
same_part a b d c ha hb e =
    let la = length_part a d c (room a d c ha) in
    let lb = length_part b d c (room b d c hb) in
    sym (enc-num (slice_range a d (d + c))) ∙ (λ i. enc (la i) (e i)) ∙ ap (λ n. enc n (num (slice_range b d (d + c)))) (sym lb) ∙ enc-num (slice_range b d (d + c))

part_is : (all : List Bool) (d c : ℕ) → slice_range all d (d + c) ≡ take c (drop d all)
part_is all d c = let e : (d + c) - d ≡ c = omega arith in ap (λ n. take n (drop d all)) e

-- one part more is the same
pub more_same : (a b : List Bool) (d c : ℕ) → d + c ≤ length a → d + c ≤ length b → take d a ≡ take d b → num (slice_range a d (d + c)) ≡ num (slice_range b d (d + c)) → take (d + c) a ≡ take (d + c) b
more_same a b d c ha hb before e =
    let here = same_part a b d c ha hb e in
    take_add d c a ∙ (λ i. before i ++ (sym (part_is a d c) ∙ here ∙ part_is b d c) i) ∙ sym (take_add d c b)

-- a part that differs is of bits that don't come next
pub part_differs : (a b : List Bool) (d c : ℕ) → d + c ≤ length b → (num (slice_range a d (d + c)) ≡ num (slice_range b d (d + c)) → ⊥) → take (length b) a ≡ b → ⊥
part_differs a b d c hb wrong same =
    wrong (ap num (range_view a (length b) d (d + c) (omega arith) hb ∙ ap (λ l. slice_range l d (d + c)) same))

-- ---- two looks, at the same places of two lists

same_look : (o q : Option ℕ) → false ≡ not (option_eq nat_eq o q) → o ≡ q
same_look None None e = refl
same_look None (Some y) e = absurd (cc)
same_look (Some x) None e = absurd (cc)
same_look (Some x) (Some y) e = by (nat_eq x y) refl e
  where
    by : (b : Bool) → nat_eq x y ≡ b → false ≡ not b → Some x ≡ Some y
    by true is f = let same : x ≡ y = grind (arith, nat_tests) in ap Some same
    by false is f = absurd (cc)

one_look : (o : Option ℕ) → option_eq nat_eq o o ≡ true
one_look None = refl
one_look (Some x) = grind (arith, nat_tests)

other_look : (o q : Option ℕ) → true ≡ not (option_eq nat_eq o q) → o ≡ q → ⊥
other_look o q e same =
    let wrong : true ≡ not (option_eq nat_eq o o) = subst (λ z. true ≡ not (option_eq nat_eq o z)) (sym same) e in
    let one = one_look o in
    absurd (cc)

abbrev Look : List Bool → ℕ → ℕ → Option ℕ → Type 0
Look all d c o = SomeIff o ((c ≤ 64) × (d + c ≤ length all)) (num (slice_range all d (d + c)))

within_both : (b : List Bool) (n d c room : ℕ) → n ≡ length b → c ≡ min (n - d) 64 → d ≤ n → n ≤ room → (c ≤ 64) × (d + c ≤ length b) × (d + c ≤ room)
within_both b n d c room count is lt le = (omega arith, omega arith, omega arith)

pub looks_agree : (a b : List Bool) (n d c : ℕ) (o q : Option ℕ) → n ≡ length b → c ≡ min (n - d) 64 → d ≤ n → n ≤ length a → Look a d c o → Look b d c q → false ≡ not (option_eq nat_eq o q)
    → take d a ≡ take d b → (d + c ≤ length b) × (take (d + c) a ≡ take (d + c) b)
looks_agree a b n d c o q count is lt le look look' e before =
    let w = within_both b n d c (length a) count is lt le in
    let one = peeked o _ _ look (w.0, w.2) in
    let other = peeked q _ _ look' (w.0, w.1) in
    let same : Some (num (slice_range a d (d + c))) ≡ Some (num (slice_range b d (d + c))) = sym one ∙ same_look o q e ∙ other in
    (w.1, more_same a b d c w.2 w.1 before cc)

pub looks_differ : (a b : List Bool) (n d c : ℕ) (o q : Option ℕ) → n ≡ length b → c ≡ min (n - d) 64 → d ≤ n → n ≤ length a → Look a d c o → Look b d c q → true ≡ not (option_eq nat_eq o q)
    → take (length b) a ≡ b → ⊥
looks_differ a b n d c o q count is lt le look look' e same =
    let w = within_both b n d c (length a) count is lt le in
    let one = peeked o _ _ look (w.0, w.2) in
    let other = peeked q _ _ look' (w.0, w.1) in
    part_differs a b d c w.1 (λ f. other_look o q e (one ∙ ap Some f ∙ sym other)) same

-- ---- one look

same_option : (o q : Option ℕ) → option_eq nat_eq o q ≡ true → o ≡ q
same_option o q e = same_look o q (ap not (sym e))

some_same : (x y : ℕ) → Some x ≡ Some y → x ≡ y
some_same x y e = cc

-- one look at as many bits shows whether they are of one number
pub one_look_shows : (a b : List Bool) (n x : ℕ) (o : Option ℕ) (r : Bool) → n ≡ length b → n ≤ length a → (length b ≤ 64) × (x ≡ num b) → Look a 0 n o → r ≡ option_eq nat_eq o (Some x) → IsTrue r ↔ (take (length b) a ≡ b)
one_look_shows a b n x o r count le is look e =
    let z : 0 + n ≡ n = omega arith in
    let one : o ≡ Some (num (slice_range a 0 (0 + n))) = peeked o _ _ look (omega (arith, count, is.0), omega arith) in
    let here : slice_range a 0 (0 + n) ≡ take (length b) a = part_is a 0 n ∙ ap (λ k. take k a) count in
    let there : o ≡ Some (num (take (length b) a)) = one ∙ ap (λ l. Some (num l)) here in
    let many : length (take (length b) a) ≡ length b = length-take-le (length b) a (omega arith) in (
      (λ t.
          let same : num (take (length b) a) ≡ num b = some_same _ _ (sym there ∙ same_option o (Some x) (sym e ∙ t)) ∙ is.1 in
          sym (enc-num (take (length b) a)) ∙ (λ i. enc (many i) (same i)) ∙ enc-num b),
      (λ same.
          let both : o ≡ Some x = there ∙ ap (λ l. Some (num l)) same ∙ ap Some (sym is.1) in
          e ∙ ap (λ z. option_eq nat_eq z (Some x)) both ∙ one_look (Some x)),
    )

-- ---- going past them

pub as_many : (b left : List Bool) → take (length b) left ≡ b → length b ≤ length left
as_many b left e = omega (arith, ap length e, length-take (length b) left)

-- bits that come next are the part up to their end
pub next_part : (all b : List Bool) (p : ℕ) → take (length b) (drop p all) ≡ b → Advances (record { used = take p all; left = drop p all }) (record { used = take (p + length b) all; left = drop (p + length b) all }) b
next_part all b p e =
    subst (λ x. Advances (record { used = take p all; left = drop p all }) (record { used = take (p + length b) all; left = drop (p + length b) all }) x) (part_is all p (length b) ∙ e) (advances all p (length b))
