-- When two fillings are one.
use Rattle.std.proofs.Common.{◌≡◌, refl, sym, ◌∙◌, ap, ℕ, zero, suc, List, [], ◌∷◌, length, arith}
use Rattle.std.specs.Prelude.{Some, slice_get, option_map, option_and_then}
use Rattle.std.proofs.lemmas.Option.{slice_get-map}
use Rattle.std.proofs.lemmas.List.{length-map}
use Rattle.sem_filling.specs.Fillings.{sides_of, inner_of, inner_at, fields_of, listing_of, level}
use Rattle.sem_filling.specs.declared.filling.Filling.{Filling, out-Filling, roll-Filling, roll-out-Filling}
use Rattle.sem_filling.specs.declared.filling.FilledField.{FilledField, roll-FilledField, roll-out-FilledField}

-- a filling is its format's index, its listing and its fields
pub filling_same : (f g : Filling) → (out-Filling f).format ≡ (out-Filling g).format → listing_of f ≡ listing_of g → fields_of f ≡ fields_of g → f ≡ g
filling_same f g e l s = sym (roll-out-Filling f) ∙ (λ i. roll-Filling record { format = e i; listing = l i; fields = s i }) ∙ roll-out-Filling g

pub field_same : (g h : FilledField) → sides_of g ≡ sides_of h → inner_of g ≡ inner_of h → g ≡ h
field_same g h s n = sym (roll-out-FilledField g) ∙ (λ i. roll-FilledField record { declared = (s i).declared; uncompressed = (s i).uncompressed; compressed = (s i).compressed; inner = n i }) ∙ roll-out-FilledField h

-- two lists are one where they are as long, and the same at each place
pub list_same : {X : Type 0} (xs ys : List X) → length xs ≡ length ys → ((i : ℕ) (x y : X) → slice_get xs i ≡ Some x → slice_get ys i ≡ Some y → x ≡ y) → xs ≡ ys
list_same [] [] e h = refl
list_same [] (y ∷ ys) e h = absurd (omega (arith, e))
list_same (x ∷ xs) [] e h = absurd (omega (arith, e))
list_same (x ∷ xs) (y ∷ ys) e h = λ i. h zero x y refl refl i ∷ list_same xs ys (omega (arith, e)) (λ k. h (suc k)) i

-- what stands at a place of a list that is as long
pub also_at : {X Y : Type 0} (xs : List X) (ys : List Y) (i : ℕ) (x : X) → length xs ≡ length ys → slice_get xs i ≡ Some x → (y : Y) × (slice_get ys i ≡ Some y)
also_at [] ys i x e h = absurd (cc)
also_at (x' ∷ xs) [] i x e h = absurd (omega (arith, e))
also_at (x' ∷ xs) (y ∷ ys) zero x e h = (y, refl)
also_at (x' ∷ xs) (y ∷ ys) (suc i) x e h = also_at xs ys i x (omega (arith, e)) h

pub sides_at : (f g : Filling) (i : ℕ) (x y : FilledField) → level f ≡ level g → slice_get (fields_of f) i ≡ Some x → slice_get (fields_of g) i ≡ Some y → sides_of x ≡ sides_of y
sides_at f g i x y same e e' =
    let both : Some (sides_of x) ≡ Some (sides_of y) =
    ap (option_map sides_of) (sym e) ∙ (sym (slice_get-map sides_of (fields_of f) i) ∙ (ap (λ z. slice_get z i) same ∙ (slice_get-map sides_of (fields_of g) i ∙ ap (option_map sides_of) e'))) in
    cc

inner_same : (f g : Filling) (i : ℕ) (x y : FilledField) → inner_at f i ≡ inner_at g i → slice_get (fields_of f) i ≡ Some x → slice_get (fields_of g) i ≡ Some y → inner_of x ≡ inner_of y
inner_same f g i x y same e e' = ap (λ o. option_and_then inner_of o) (sym e) ∙ (same ∙ ap (λ o. option_and_then inner_of o) e')

pub same : (f g : Filling) → (out-Filling f).format ≡ (out-Filling g).format → listing_of f ≡ listing_of g → level f ≡ level g → ((i : ℕ) → inner_at f i ≡ inner_at g i) → f ≡ g
same f g e l s n =
    let as_long : length (fields_of f) ≡ length (fields_of g) = sym (length-map (fields_of f) sides_of) ∙ (ap length s ∙ length-map (fields_of g) sides_of) in
    filling_same f g e l (list_same (fields_of f) (fields_of g) as_long (λ i x y at at'. field_same x y (sides_at f g i x y s at at') (inner_same f g i x y (n i) at at')))
