-- One letter apart, by a way through both texts and without one.
use Rattle.std.proofs.Common.{◌≡◌, ◌≢◌, refl, ℕ, Bool, true, false, List, [], ◌∷◌, ap, sym, ◌∙◌, subst, inl, inr}
use Rattle.std.specs.Prelude.{◌&&◌, ◌||◌, ◌⊎◌, nat_eq, if◌then◌else◌}
use Rattle.std.specs.Char.{is_ascii_alphabetic}
use Rattle.std.specs.Str.{bytes_eq}
use Rattle.std.proofs.lemmas.Slice.Eq.{bytes_eq-Decides}
use Rattle.std.proofs.lemmas.Bool.Decides.{Decides-eqb}
use Rattle.sem_lint.specs.Spelled.{AreNear, NearIsOneLetter, another, begin_alike, differ_once, further, has_letter_more, have_other_letter, is_near, missing, too_many}

both : (a b : Bool) → (a && b) ≡ true → (a ≡ true) × (b ≡ true)
both true b e = (refl, e)
both false b e = absurd (cc)

either : (a b : Bool) → (a || b) ≡ true → (a ≡ true) ⊎ (b ≡ true)
either true b e = inl refl
either false b e = inr e

or_left : (a b : Bool) → a ≡ true → (a || b) ≡ true
or_left a b e = ap (λ x. x || b) e

or_right : (a b : Bool) → b ≡ true → (a || b) ≡ true
or_right true b e = refl
or_right false b e = e

and_both : (a b : Bool) → a ≡ true → b ≡ true → (a && b) ≡ true
and_both a b e f = ap (λ x. x && b) e ∙ f

same_number : (x y : ℕ) → nat_eq x y ≡ true → x ≡ y
same_number x y e = (Decides-eqb x y).0 e

equal_numbers : (x y : ℕ) → x ≡ y → nat_eq x y ≡ true
equal_numbers x y e = (Decides-eqb x y).1 e

own_number : (x : ℕ) → nat_eq x x ≡ true
own_number x = equal_numbers x x refl

-- ---- one of the three

more_to : (short long : List ℕ) → has_letter_more short long ≡ true → AreNear short long
more_to short [] e = absurd (cc)
more_to short (x ∷ long) e =
    let (letter, same) = both (is_ascii_alphabetic x) (bytes_eq long short) e in
    subst (λ xs. AreNear short (x ∷ xs)) (sym ((bytes_eq-Decides long short).0 same)) (missing x short letter)

less_to : (short long : List ℕ) → has_letter_more short long ≡ true → AreNear long short
less_to short [] e = absurd (cc)
less_to short (x ∷ long) e =
    let (letter, same) = both (is_ascii_alphabetic x) (bytes_eq long short) e in
    subst (λ xs. AreNear (x ∷ xs) short) (sym ((bytes_eq-Decides long short).0 same)) (too_many x short letter)

other_to : (one other : List ℕ) → begin_alike one other ≡ false → have_other_letter one other ≡ true → AreNear one other
other_to [] other apart e = absurd (cc)
other_to (x ∷ one) [] apart e = absurd (cc)
other_to (x ∷ one) (y ∷ other) apart e =
    let (first, rest) = both (is_ascii_alphabetic x) (is_ascii_alphabetic y && bytes_eq one other) e in
    let (second, same) = both (is_ascii_alphabetic y) (bytes_eq one other) rest in
    let differ : x ≢ y = λ k. let yes : true ≡ false = sym (equal_numbers x y k) ∙ apart in cc in
    subst (λ xs. AreNear (x ∷ one) (y ∷ xs)) ((bytes_eq-Decides one other).0 same) (another x y one first second differ)

differ_to : (one other : List ℕ) → begin_alike one other ≡ false → differ_once one other ≡ true → AreNear one other
differ_to one other apart e = elim (either (have_other_letter one other) _ e) [
  | inl o ↦ other_to one other apart o
  | inr m ↦ elim (either (has_letter_more one other) _ m) [
    | inl more ↦ more_to one other more
    | inr less ↦ less_to other one less
  ]
]

near_step : (x y : ℕ) (one other : List ℕ) (b : Bool) → nat_eq x y ≡ b → (is_near one other ≡ true → AreNear one other) → (if b then is_near one other else differ_once (x ∷ one) (y ∷ other)) ≡ true
    → AreNear (x ∷ one) (y ∷ other)
near_step x y one other true is rest e = subst (λ z. AreNear (x ∷ one) (z ∷ other)) (same_number x y is) (further x (rest e))
near_step x y one other false is rest e = differ_to (x ∷ one) (y ∷ other) is e

near_to : (one other : List ℕ) → is_near one other ≡ true → AreNear one other
near_to [] other e = differ_to [] other refl e
near_to (x ∷ one) [] e = differ_to (x ∷ one) [] refl e
near_to (x ∷ one) (y ∷ other) e = near_step x y one other (nat_eq x y) refl (near_to one other) e

-- ---- and back

more_from : (x : ℕ) (rest : List ℕ) → is_ascii_alphabetic x ≡ true → has_letter_more rest (x ∷ rest) ≡ true
more_from x rest letter = and_both (is_ascii_alphabetic x) (bytes_eq rest rest) letter ((bytes_eq-Decides rest rest).1 refl)

missing_step : (x y : ℕ) (rest : List ℕ) (b : Bool) → nat_eq y x ≡ b → is_ascii_alphabetic x ≡ true → (is_ascii_alphabetic y ≡ true → is_near rest (y ∷ rest) ≡ true)
    → (if b then is_near rest (y ∷ rest) else differ_once (y ∷ rest) (x ∷ y ∷ rest)) ≡ true
missing_step x y rest true is letter on = on (subst (λ z. is_ascii_alphabetic z ≡ true) (sym (same_number y x is)) letter)
missing_step x y rest false is letter on = or_right (have_other_letter (y ∷ rest) (x ∷ y ∷ rest)) _ (or_left (has_letter_more (y ∷ rest) (x ∷ y ∷ rest)) _ (more_from x (y ∷ rest) letter))

-- a letter in front of a text is one letter more, also where the text begins with that letter
missing_near : (x : ℕ) (rest : List ℕ) → is_ascii_alphabetic x ≡ true → is_near rest (x ∷ rest) ≡ true
missing_near x [] letter = or_right (have_other_letter [] (x ∷ [])) _ (or_left (has_letter_more [] (x ∷ [])) _ (more_from x [] letter))
missing_near x (y ∷ rest) letter = missing_step x y rest (nat_eq y x) refl letter (missing_near y rest)

too_many_step : (x y : ℕ) (rest : List ℕ) (b : Bool) → nat_eq x y ≡ b → is_ascii_alphabetic x ≡ true → (is_ascii_alphabetic y ≡ true → is_near (y ∷ rest) rest ≡ true)
    → (if b then is_near (y ∷ rest) rest else differ_once (x ∷ y ∷ rest) (y ∷ rest)) ≡ true
too_many_step x y rest true is letter on = on (subst (λ z. is_ascii_alphabetic z ≡ true) (same_number x y is) letter)
too_many_step x y rest false is letter on = or_right (have_other_letter (x ∷ y ∷ rest) (y ∷ rest)) _ (or_right (has_letter_more (x ∷ y ∷ rest) (y ∷ rest)) _ (more_from x (y ∷ rest) letter))

too_many_near : (x : ℕ) (rest : List ℕ) → is_ascii_alphabetic x ≡ true → is_near (x ∷ rest) rest ≡ true
too_many_near x [] letter = or_right (have_other_letter (x ∷ []) []) _ (or_right (has_letter_more (x ∷ []) []) _ (more_from x [] letter))
too_many_near x (y ∷ rest) letter = too_many_step x y rest (nat_eq x y) refl letter (too_many_near y rest)

another_step : (x y : ℕ) (rest : List ℕ) (b : Bool) → nat_eq x y ≡ b → is_ascii_alphabetic x ≡ true → is_ascii_alphabetic y ≡ true → x ≢ y
    → (if b then is_near rest rest else differ_once (x ∷ rest) (y ∷ rest)) ≡ true
another_step x y rest true is first second differ = absurd (differ (same_number x y is))
another_step x y rest false is first second differ =
    or_left (have_other_letter (x ∷ rest) (y ∷ rest)) _
    (and_both (is_ascii_alphabetic x) _ first (and_both (is_ascii_alphabetic y) (bytes_eq rest rest) second ((bytes_eq-Decides rest rest).1 refl)))

further_step : (x : ℕ) (one other : List ℕ) (b : Bool) → b ≡ true → is_near one other ≡ true → (if b then is_near one other else differ_once (x ∷ one) (x ∷ other)) ≡ true
further_step x one other true is near = near
further_step x one other false is near = absurd (cc)

near_from : (one other : List ℕ) → AreNear one other → is_near one other ≡ true
near_from _ _ (another x y rest first second differ) = another_step x y rest (nat_eq x y) refl first second differ
near_from _ _ (missing x rest letter) = missing_near x rest letter
near_from _ _ (too_many x rest letter) = too_many_near x rest letter
near_from _ _ (further x {one} {other} near) = further_step x one other (nat_eq x x) (own_number x) (near_from one other near)

pub near_is_one_letter : NearIsOneLetter
near_is_one_letter one other = (near_to one other, near_from one other)
