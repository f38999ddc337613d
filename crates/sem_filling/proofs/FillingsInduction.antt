-- Induction over fillings, level by level.
use Rattle.std.proofs.Common.{◌≡◌, refl, sym, ◌∙◌, ap, subst, ℕ, zero, suc, List, [], ◌∷◌, map}
use Rattle.std.specs.Prelude.{Option, Some, None, slice_get, option_and_then}
use Rattle.sem_filling.specs.Fillings.{inner_of, inner_at}
use Rattle.sem_filling.specs.declared.filling.Filling.{Filling, roll-Filling, ind-Filling, out-roll-Filling}
use Rattle.sem_filling.specs.declared.filling.FilledField.{FilledField, out-roll-FilledField, map-FilledField}

abbrev Inner : (Filling → Type 0) → FilledField → Type 0
Inner P g = (inner : Filling) → inner_of g ≡ Some inner → P inner

-- a value that stands with a proof of it in an option, where m leaves the proofs out
held : {X : Type 0} (P : X → Type 0) (m : Option ((x : X) × P x) → Option X) → m None ≡ None → ((s : (x : X) × P x) → m (Some s) ≡ Some s.0) → (o : Option ((x : X) × P x)) (x : X) → m o ≡ Some x → P x
held P m none some None x e = absurd (cc)
held P m none some (Some s) x e = let same : s.0 ≡ x = let h : m (Some s) ≡ Some s.0 = some s in cc in subst P same s.1

-- the same in a list, of the filling inside the field at a place
picked : (P : Filling → Type 0) (ys : List ((x : FilledField) × Inner P x)) (i : ℕ) (inner : Filling) → option_and_then inner_of (slice_get (map (λ e. e.0) ys) i) ≡ Some inner → P inner
picked P [] i inner e = absurd (cc)
picked P (y ∷ ys) zero inner e = y.1 inner e
picked P (y ∷ ys) (suc i) inner e = picked P ys i inner e

-- what holds of a filling where it holds of each that is inside one of its fields, holds of all
pub by_levels : (P : Filling → Type 0) → ((f : Filling) → ((i : ℕ) (inner : Filling) → inner_at f i ≡ Some inner → P inner) → P f) → (f : Filling) → P f
by_levels P step = ind-Filling (Inner P) P
    (λ x y is inner e. held P (λ o. (map-FilledField _ _ _ _ (λ e. e.0) (λ e. e.0) (record y { inner = o })).inner) refl (λ s. refl) y.inner inner (ap (λ z. z.inner) is ∙ (ap (λ z. z.inner) (sym (out-roll-FilledField x)) ∙ e)))
    (λ x y is. step (roll-Filling x) (λ i inner at.
    picked P y.fields i inner (ap (λ z. option_and_then inner_of (slice_get z.fields i)) (is ∙ sym (out-roll-Filling x)) ∙ at)))
