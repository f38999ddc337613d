-- The values of asked fields, field by field.
use Rattle.std.proofs.Common.{◌≡◌, ◌∙◌, refl, sym, ap, ℕ, ◌+◌, zero, suc, Bool, true, false, cond, List, [], ◌∷◌, map, filter, drop, add-one}
use Rattle.std.specs.Prelude.{Some, slice_get}
use Rattle.sem_filling.specs.declared.filling.AskedValue.{AskedValue}
use Rattle.sem_filling.specs.declared.filling.FilledField.{FilledField}
use Rattle.sem_filling.specs.Fillings.{Sides, sides_of, asked_values, value_of}

pub drop_at : {X : Type 0} (xs : List X) (i : ℕ) (x : X) → slice_get xs i ≡ Some x → drop i xs ≡ x ∷ drop (suc i) xs
drop_at [] i x e = absurd (cc)
drop_at (y ∷ ys) zero x e = let same : y ≡ x = cc in ap (λ z. z ∷ ys) same
drop_at (y ∷ ys) (suc i) x e = drop_at ys i x e

abbrev value_in : Sides → AskedValue
value_in s = record { name = s.declared.name; bits = s.uncompressed }

asked_step : (s : Sides) (ss : List Sides) (b : Bool) → s.declared.asked ≡ b → asked_values (s ∷ ss) ≡ cond b (value_in s ∷ asked_values ss) (asked_values ss)
asked_step s ss b is = ap (λ t. map value_in (cond t (s ∷ filter (λ (x : Sides). x.declared.asked) ss) (filter (λ (x : Sides). x.declared.asked) ss))) is ∙ by b
  where
    by : (t : Bool) → map value_in (cond t (s ∷ filter (λ (x : Sides). x.declared.asked) ss) (filter (λ (x : Sides). x.declared.asked) ss)) ≡ cond t (value_in s ∷ asked_values ss) (asked_values ss)
    by true = refl
    by false = refl

-- a field more: its value, if it is asked
pub asked_more : (gs : List FilledField) (i : ℕ) (g : FilledField) → slice_get gs i ≡ Some g → (b : Bool) → (sides_of g).declared.asked ≡ b
    → asked_values (map sides_of (drop i gs)) ≡ cond b (value_of g ∷ asked_values (map sides_of (drop (i + 1) gs))) (asked_values (map sides_of (drop (i + 1) gs)))
asked_more gs i g at b is =
    let one : suc i ≡ i + 1 = sym (add-one i) in
    ap (λ z. asked_values (map sides_of z)) (drop_at gs i g at ∙ ap (λ n. g ∷ drop n gs) one) ∙ asked_step (sides_of g) (map sides_of (drop (i + 1) gs)) b is
