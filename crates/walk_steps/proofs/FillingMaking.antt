-- A filling that is made field by field of what the slots know.
use Rattle.std.proofs.Common.{◌≡◌, ◌∙◌, refl, sym, ap, ℕ, suc, zero, ◌+◌, ◌<◌, ◌≤◌, List, [], ◌∷◌, ◌++◌, map, length, drop, arith}
use Rattle.std.specs.Prelude.{Option, Some, None, slice_get, option_and_then, option_map}
use Rattle.std.proofs.Math.Numerals.{add-one}
use Rattle.std.proofs.lemmas.List.{map-append, append_assoc}
use Rattle.std.proofs.lemmas.Option.{slice_get-map}
use Rattle.sem_profile.specs.declared.profile.Field.{Field}
use Rattle.sem_profile.proofs.Loops.{dropped}
use Rattle.sem_filling.specs.declared.filling.FilledField.{FilledField}
use Rattle.sem_filling.specs.Fillings.{inner_of, sides_of}
use Rattle.cert_rules.specs.declared.slots.Slot.{Slot}
use Rattle.cert_rules.specs.Slots.{slot_sides, slot_inner, has_bits, learnt_of}
use Rattle.walk_steps.specs.Filled.{IsFilledWith, LacksSide}
use Rattle.walk_steps.specs.Partial.{Lacks}

-- the element that the rest begins with
pub record Front {A : Type 0} (xs : List A) (i : ℕ) (x : A) (rest : List A) : Type 0 where
  pub at : slice_get xs i ≡ Some x
  pub within : i < length xs
  pub rest_is : drop (i + 1) xs ≡ rest

pub front : {A : Type 0} (xs : List A) (i : ℕ) (x : A) (rest : List A) → drop i xs ≡ x ∷ rest → Front xs i x rest
front [] zero x rest e = let wrong : [] ≡ x ∷ rest = e in absurd cc
front [] (suc i) x rest e = let wrong : [] ≡ x ∷ rest = e in absurd cc
front (y ∷ ys) zero x rest e =
    let both : y ∷ ys ≡ x ∷ rest = e in
    let same : y ≡ x = cc in
    let tail : ys ≡ rest = cc in
    record { at = ap Some same; within = omega arith; rest_is = tail }
front (y ∷ ys) (suc i) x rest e =
    let below = front ys i x rest e in
    let less = below.within in
    let again : suc i + 1 ≡ suc (i + 1) = omega arith in
    let later : drop (suc i + 1) (y ∷ ys) ≡ rest = ap (λ n. drop n (y ∷ ys)) again ∙ below.rest_is in
    record { at = below.at; within = omega arith; rest_is = later }

-- the fields before the index are made, and the rest of the slots is still to be taken
pub record IsSoFar (fields : List Field) (slots rest : List Slot) (filled : List FilledField) (n : ℕ) : Type 0 where
  pub rest_is : drop n slots ≡ rest
  pub count : n ≤ length slots
  pub sides : map sides_of filled ++ slot_sides (drop n fields) rest ≡ slot_sides fields slots
  pub inners : map inner_of filled ++ map (λ s. s.inner) rest ≡ map (λ s. s.inner) slots

joined : {A B : Type 0} (f : A → B) (xs : List A) (x : A) (rest : List B) → map f (xs ++ (x ∷ [])) ++ rest ≡ map f xs ++ (f x ∷ rest)
joined f xs x rest = ap (λ ys. ys ++ rest) (map-append f xs (x ∷ [])) ∙ append_assoc (map f xs) (f x ∷ []) rest

pub one_made : (fields : List Field) (slots : List Slot) (s : Slot) (rest : List Slot) (filled : List FilledField) (n : ℕ) (d : Field) (x : FilledField) →
    IsSoFar fields slots (s ∷ rest) filled n → slice_get fields n ≡ Some d → IsFilledWith d.declared s x → IsSoFar fields slots rest (filled ++ (x ∷ [])) (n + 1)
one_made fields slots s rest filled n d x so at is =
    let f = front slots n s rest so.rest_is in
    let less = f.within in
    let next : drop n fields ≡ d ∷ drop (n + 1) fields = dropped fields n d at ∙ ap (λ m. d ∷ drop m fields) (sym (add-one n)) in
    record {
      rest_is = f.rest_is;
      count = omega arith;
      sides = joined sides_of filled x (slot_sides (drop (n + 1) fields) rest)
          ∙ (ap (λ y. map sides_of filled ++ (y ∷ slot_sides (drop (n + 1) fields) rest)) is.sides_are
          ∙ (ap (λ ds. map sides_of filled ++ slot_sides ds (s ∷ rest)) (sym next) ∙ so.sides));
      inners = joined inner_of filled x (map (λ (t : Slot). t.inner) rest) ∙ (ap (λ y. map inner_of filled ++ (y ∷ map (λ (t : Slot). t.inner) rest)) is.inner_is ∙ so.inners);
    }

pub one_lacks : (fields : List Field) (slots : List Slot) (s : Slot) (rest : List Slot) (filled : List FilledField) (n : ℕ) → IsSoFar fields slots (s ∷ rest) filled n → LacksSide s → Lacks slots
one_lacks fields slots s rest filled n so lacks =
    let f = front slots n s rest so.rest_is in
    record { field = n; side = lacks.0; within = f.within; unknown = ap (λ o. has_bits (learnt_of lacks.0 o)) f.at ∙ lacks.1 }

no_sides : (fields : List Field) → slot_sides fields [] ≡ []
no_sides [] = refl
no_sides (d ∷ ds) = refl

append_none : {A : Type 0} (xs : List A) → xs ++ [] ≡ xs
append_none [] = refl
append_none (x ∷ xs) = ap (λ ys. x ∷ ys) (append_none xs)

pub none_left : {A : Type 0} (xs : List A) → length xs ≡ 0 → xs ≡ []
none_left [] e = refl
none_left (x ∷ xs) e = absurd (omega (arith, e))

pub all_sides : (fields : List Field) (slots : List Slot) (filled : List FilledField) (n : ℕ) → IsSoFar fields slots [] filled n → map sides_of filled ≡ slot_sides fields slots
all_sides fields slots filled n so = sym (append_none (map sides_of filled)) ∙ (ap (λ ys. map sides_of filled ++ ys) (sym (no_sides (drop n fields))) ∙ so.sides)

inner_is : (o : Option FilledField) (p : Option Slot) → option_map inner_of o ≡ option_map (λ s. s.inner) p → option_and_then inner_of o ≡ slot_inner p
inner_is None None e = refl
inner_is None (Some s) e = absurd cc
inner_is (Some x) None e = absurd cc
inner_is (Some x) (Some s) e = let same : inner_of x ≡ s.inner = cc in same

pub inners_at : (filled : List FilledField) (slots : List Slot) → map inner_of filled ≡ map (λ s. s.inner) slots → (i : ℕ) → option_and_then inner_of (slice_get filled i) ≡ slot_inner (slice_get slots i)
inners_at filled slots e i =
    inner_is (slice_get filled i) (slice_get slots i)
    (sym (slice_get-map inner_of filled i) ∙ (ap (λ os. slice_get os i) e ∙ slice_get-map (λ (s : Slot). s.inner) slots i))
