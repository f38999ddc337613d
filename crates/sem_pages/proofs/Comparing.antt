-- Bits that are compared with others, 64 of them at a time.
use Rattle.std.proofs.Common.{◌≡◌, ◌∙◌, sym, refl, ap, subst, ℕ, ◌+◌, ◌≤◌, List, [], ◌∷◌, ◌++◌, Bool, length, take, drop, ◌<◌, ◌^◌, append_assoc, append-nil, arith}
use Rattle.std.specs.Prelude.{slice_range, Some}
use Rattle.std.proofs.lemmas.List.{drop_all, length-drop, take_all}
use Rattle.sem_bits.proofs.CursorLists.{length_part}
use Rattle.sem_bits.specs.Number.{num, enc}
use Rattle.sem_bits.proofs.Numbers.{length-enc, num-enc, num-below}
use Rattle.sem_filling.specs.Fillings.{header_bits}
use Rattle.sem_profile.specs.declared.profile.Field.{Field}
use Rattle.sem_profile.specs.declared.profile.Part.TheVariants.{Header}
use Rattle.sem_pages.specs.declared.page.Shown.{Shown, out-Shown}
use Rattle.sem_pages.specs.declared.sides.Compared.{Compared}
use Rattle.sem_pages.specs.Comparing.{HasCome}
use Rattle.sem_pages.specs.Pages.{level_by, sides_by}
use Rattle.sem_pages.proofs.Standing.{stand_there}

-- a field of the header adds its uncompressed side
pub of_header : (d : Field) (s : Shown) (w : List Bool) → d.declared.part ≡ Header → (out-Shown s).uncompressed ≡ Some w → header_bits (sides_by d s ∷ []) ≡ w
of_header d s w part is = rw (part, is) (append-nil w)

-- 64 bits more are compared
pub come_further : (left tail word rest front : List Bool) (p first : ℕ) → p + 64 ≤ length left → first ≡ num (slice_range left p (p + 64)) → tail ++ word ≡ enc 64 first ++ rest → take p left ++ tail ≡ front → take (p + 64) left ++ rest ≡ front ++ word
come_further left tail word rest front p first within found is come =
    let s = enc 64 first in
    ap (λ z. z ++ rest) (stand_there left s p 64 first first (sym (length-enc 64 first)) within found (number left p first found within) (λ i. first))
    ∙ append_assoc (take p left) s rest
    ∙ ap (λ z. take p left ++ z) (sym is)
    ∙ sym (append_assoc (take p left) tail word)
    ∙ ap (λ z. z ++ word) come
  where
    number : (left : List Bool) (p first : ℕ) → first ≡ num (slice_range left p (p + 64)) → p + 64 ≤ length left → first ≡ num (enc 64 first)
    number left p first found within =
        let few : 64 ≤ length (drop p left) = omega (arith, within, length-drop p left) in
        let below = subst (λ k. num (slice_range left p (p + 64)) < 2 ^ k) (length_part left p 64 few) (num-below (slice_range left p (p + 64))) in
        sym (num-enc 64 first (subst (λ x. x < 2 ^ 64) (sym found) below))

-- what isn't compared yet stands at the end
pub come_to_end : (left tail front : List Bool) (p n x y most : ℕ) → n ≡ length tail → p + n ≤ length left → x ≡ num (slice_range left p (p + n)) → y ≡ num tail → x ≡ y → p + n ≡ most → most ≡ length left → take p left ++ tail ≡ front → left ≡ front
come_to_end left tail front p n x y most count within found own same last whole come =
    let all : length left ≤ p + n = omega (arith, last, whole) in
    sym (take_all (p + n) left all) ∙ stand_there left tail p n x y count within found own same ∙ come

-- the same of a whole comparison, where the bits are those that are left
pub next_come : (left bits added : List Bool) (old new : Compared) → left ≡ bits → ((front : List Bool) → HasCome left old front → HasCome left new (front ++ added)) → old.place ≤ length bits → HasCome bits new ((take old.place bits ++ old.tail) ++ added)
next_come left bits added old new is goes within = subst (λ z. HasCome z new ((take old.place z ++ old.tail) ++ added)) is (goes _ (subst (λ z. old.place ≤ length z) (sym is) within, refl))

pub all_come : (left bits whole : List Bool) (c : Compared) (ds : List Field) (ss : List Shown) (i : ℕ) → left ≡ bits → length ds ≤ i → c.place ≤ length bits → (take c.place bits ++ c.tail) ++ header_bits (level_by (drop i ds) (drop i ss)) ≡ whole
    → ((front : List Bool) → HasCome left c front → left ≡ front) → bits ≡ whole
all_come left bits whole c ds ss i is over within come ends =
    let none : drop i ds ≡ [] = drop_all i ds over in
    let last : header_bits (level_by (drop i ds) (drop i ss)) ≡ [] = ap (λ z. header_bits (level_by z (drop i ss))) none in
    let end : bits ≡ take c.place bits ++ c.tail = subst (λ z. z ≡ take c.place z ++ c.tail) is (ends _ (subst (λ z. c.place ≤ length z) (sym is) within, refl)) in
    end ∙ sym (append-nil (take c.place bits ++ c.tail)) ∙ ap (λ z. (take c.place bits ++ c.tail) ++ z) (sym last) ∙ come
