-- The values of asked fields, compared with a list value by value.
use Rattle.std.proofs.Common.{◌≡◌, ◌∙◌, refl, sym, ap, ℕ, ◌+◌, zero, suc, true, false, List, [], ◌∷◌, ◌≤◌, length, map, drop, add-one, arith}
use Rattle.std.specs.Prelude.{Some, None, slice_get, ◌↔◌}
use Rattle.sem_filling.specs.declared.filling.AskedValue.{AskedValue}
use Rattle.sem_filling.specs.declared.filling.FilledField.{FilledField}
use Rattle.sem_filling.specs.Fillings.{sides_of, asked_values, value_of}
use Rattle.sem_filling.proofs.FillingsAsked.{asked_more, drop_at}

-- where an element isn't there, no more are left
left_none : {X : Type 0} (xs : List X) (i : ℕ) → slice_get xs i ≡ None → drop i xs ≡ []
left_none [] zero e = refl
left_none [] (suc i) e = refl
left_none (y ∷ ys) zero e = absurd (cc)
left_none (y ∷ ys) (suc i) e = left_none ys i e

none_left : {X : Type 0} (xs : List X) (i : ℕ) → drop i xs ≡ [] → slice_get xs i ≡ None
none_left [] zero e = refl
none_left [] (suc i) e = refl
none_left (y ∷ ys) zero e = absurd (cc)
none_left (y ∷ ys) (suc i) e = none_left ys i e

drop_over : {X : Type 0} (xs : List X) (i : ℕ) → length xs ≤ i → drop i xs ≡ []
drop_over [] zero l = refl
drop_over [] (suc i) l = refl
drop_over (y ∷ ys) zero l = absurd (omega arith)
drop_over (y ∷ ys) (suc i) l = drop_over ys i (omega arith)

-- after the last field there are no more values
pub values_end : (whole : Type 0) (gs : List FilledField) (i : ℕ) (values : List AskedValue) (place : ℕ) → length gs ≤ i → (whole ↔ (asked_values (map sides_of (drop i gs)) ≡ drop place values))
    → (slice_get values place ≡ None) ↔ whole
values_end whole gs i values place over same =
    let none : asked_values (map sides_of (drop i gs)) ≡ [] = ap (λ z. asked_values (map sides_of z)) (drop_over gs i over) in
    (λ e. same.1 (none ∙ sym (left_none values place e)), λ w. none_left values place (sym (same.0 w) ∙ none))

module _ (gs : List FilledField) (i : ℕ) (g : FilledField) (at : slice_get gs i ≡ Some g) where
  module _ (whole : Type 0) (values : List AskedValue) (place : ℕ) (same : whole ↔ (asked_values (map sides_of (drop i gs)) ≡ drop place values)) where
    -- a field that isn't asked
    pub value_past : (sides_of g).declared.asked ≡ false → whole ↔ (asked_values (map sides_of (drop (i + 1) gs)) ≡ drop place values)
    value_past is = let more = asked_more gs i g at false is in (λ w. sym more ∙ same.0 w, λ e. same.1 (more ∙ e))

    -- one whose value comes next
    pub value_on : (sides_of g).declared.asked ≡ true → slice_get values place ≡ Some (value_of g) → whole ↔ (asked_values (map sides_of (drop (i + 1) gs)) ≡ drop (place + 1) values)
    value_on is next =
        let one : suc place ≡ place + 1 = sym (add-one place) in
        let more = asked_more gs i g at true is in
        let left = drop_at values place (value_of g) next ∙ ap (λ n. value_of g ∷ drop n values) one in (
          λ w. let e : value_of g ∷ asked_values (map sides_of (drop (i + 1) gs)) ≡ value_of g ∷ drop (place + 1) values = sym more ∙ same.0 w ∙ left in cc,
          λ e. same.1 (more ∙ ap (λ z. value_of g ∷ z) e ∙ sym left),
        )

    -- one whose value doesn't
    pub value_off : (sides_of g).declared.asked ≡ true → (slice_get values place ≡ Some (value_of g) → ⊥) → whole → ⊥
    value_off is wrong w = wrong (front_is values place (value_of g) (asked_values (map sides_of (drop (i + 1) gs))) (sym (same.0 w) ∙ asked_more gs i g at true is))
      where
        front_is : {X : Type 0} (xs : List X) (n : ℕ) (x : X) (rest : List X) → drop n xs ≡ x ∷ rest → slice_get xs n ≡ Some x
        front_is [] zero x rest e = absurd (cc)
        front_is [] (suc n) x rest e = absurd (cc)
        front_is (y ∷ ys) zero x rest e = let same : y ≡ x = cc in ap Some same
        front_is (y ∷ ys) (suc n) x rest e = front_is ys n x rest e
