-- Fillings inside fields have fewer levels.
use Rattle.std.proofs.Common.{◌≡◌, refl, sym, ◌∙◌, ap, subst, ℕ, ◌+◌, ◌≤◌, zero, suc, Bool, true, false, cond, List, [], ◌∷◌, map, filter, nat_eq, arith}
use Rattle.std.specs.Prelude.{Option, Some, None, slice_get, option_map, option_and_then, unwrap_or}
use Rattle.std.specs.List.{cons_option, filter_map}
use Rattle.std.proofs.Math.Nat.{le-max_left, le-max_right, max-le}
use Rattle.sem_filling.specs.Fillings.{fields_of, inner_at, inner_of, listing_of}
use Rattle.sem_filling.specs.declared.filling.Filling.{Filling, fold_out-Filling, out-Filling}
use Rattle.sem_filling.specs.declared.filling.FilledField.{FilledField, out-FilledField, fold_out-FilledField, fold-FilledField, map-FilledField}
use Rattle.tool_items.specs.Counts.{inner_in, insides, of_format}
use Rattle.tool_items.specs.Depth.{deepest, greatest, levels, levels_inside, levels_with}

inside_levels : Option Filling → ℕ
inside_levels o = unwrap_or (option_map levels o) 0

inside : (m : Option Filling → Option ℕ) → m None ≡ None → ((f : Filling) → m (Some f) ≡ Some (levels f)) → (o : Option Filling) → unwrap_or (m o) 0 ≡ unwrap_or (option_map levels o) 0
inside m none some None = ap (λ z. unwrap_or z 0) none
inside m none some (Some f) = ap (λ z. unwrap_or z 0) (some f)

field_is : (g : FilledField) → fold-FilledField ℕ ℕ levels_inside levels_with g ≡ unwrap_or (option_map levels (inner_of g)) 0
field_is g =
    fold_out-FilledField ℕ ℕ levels_inside levels_with g
    ∙ inside (λ o. (map-FilledField FilledField Filling ℕ ℕ (fold-FilledField ℕ ℕ levels_inside levels_with) levels (record (out-FilledField g) { inner = o })).inner) refl (λ f. refl) (inner_of g)

at_most : (gs : List FilledField) (i : ℕ) (f : Filling) → option_and_then inner_of (slice_get gs i) ≡ Some f → levels f ≤ greatest (map (fold-FilledField ℕ ℕ levels_inside levels_with) gs)
at_most [] i f e = absurd (cc)
at_most (g ∷ gs) zero f e =
    let here : fold-FilledField ℕ ℕ levels_inside levels_with g ≡ levels f = field_is g ∙ ap (λ o. unwrap_or (option_map levels o) 0) e in
    let le = le-max_left (fold-FilledField ℕ ℕ levels_inside levels_with g) (greatest (map (fold-FilledField ℕ ℕ levels_inside levels_with) gs)) in
    subst (λ n. n ≤ greatest (map (fold-FilledField ℕ ℕ levels_inside levels_with) (g ∷ gs))) here le
at_most (g ∷ gs) (suc i) f e = omega (arith, at_most gs i f e, le-max_right (fold-FilledField ℕ ℕ levels_inside levels_with g) (greatest (map (fold-FilledField ℕ ℕ levels_inside levels_with) gs)))

levels_are : (f : Filling) → levels f ≡ greatest (map (fold-FilledField ℕ ℕ levels_inside levels_with) (fields_of f)) + 1
levels_are f = fold_out-Filling ℕ ℕ levels_inside levels_with f

fewer_inside : (f g : Filling) (i : ℕ) → inner_at f i ≡ Some g → levels g + 1 ≤ levels f
fewer_inside f g i e = omega (arith, levels_are f, at_most (fields_of f) i g e)

fewer_in : (p : ℕ) (f g : Filling) (o : Option ℕ) → slice_get (listing_of f) p ≡ o → inner_in p f ≡ Some g → levels g + 1 ≤ levels f
fewer_in p f g None at e = let wrong : None ≡ Some g = sym (ap (option_and_then (inner_at f)) at) ∙ e in absurd (cc)
fewer_in p f g (Some i) at e = fewer_inside f g i (sym (ap (option_and_then (inner_at f)) at) ∙ e)

-- those inside are a level less deep
one_less : (p d : ℕ) (o : Option Filling) (f : Filling) (rest : List Filling) → inner_in p f ≡ o → levels f ≤ d + 1 → deepest rest ≤ d → deepest (cons_option o rest) ≤ d
one_less p d None f rest e le so = so
one_less p d (Some g) f rest e le so = max-le (let less = fewer_in p f g (slice_get (listing_of f) p) refl e in omega (arith, less, le)) so

inside_all : (p d : ℕ) (fs : List Filling) → deepest fs ≤ d + 1 → deepest (filter_map (inner_in p) fs) ≤ d
inside_all p d [] le = omega arith
inside_all p d (f ∷ fs) le =
    one_less p d (inner_in p f) f (filter_map (inner_in p) fs) refl (omega (arith, le, le-max_left (levels f) (deepest fs))) (inside_all p d fs (omega (arith, le, le-max_right (levels f) (deepest fs))))

kept_one : (b : Bool) (f : Filling) (fs : List Filling) (d : ℕ) → levels f ≤ d → deepest fs ≤ d → deepest (cond b (f ∷ fs) fs) ≤ d
kept_one true f fs d one all = max-le one all
kept_one false f fs d one all = all

some_of : (q : Filling → Bool) (fs : List Filling) (d : ℕ) → deepest fs ≤ d → deepest (filter q fs) ≤ d
some_of q [] d le = le
some_of q (f ∷ fs) d le = kept_one (q f) f (filter q fs) d (omega (arith, le, le-max_left (levels f) (deepest fs))) (some_of q fs d (omega (arith, le, le-max_right (levels f) (deepest fs))))

pub deepest_inside : (n p d : ℕ) (fs : List Filling) → deepest fs ≤ d + 1 → deepest (insides n p fs) ≤ d
deepest_inside n p d fs le = inside_all p d (of_format n fs) (some_of (λ f. nat_eq (out-Filling f).format n) fs (d + 1) le)

-- only no fillings have no levels
pub none_deep : (fs : List Filling) → deepest fs ≤ 0 → fs ≡ []
none_deep [] le = refl
none_deep (f ∷ fs) le = absurd (omega (arith, le, levels_are f, le-max_left (levels f) (deepest fs)))
