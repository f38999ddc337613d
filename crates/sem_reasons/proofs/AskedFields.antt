-- The values of asked fields, in their order.
use Rattle.std.proofs.Common.{◌≡◌, ◌∙◌, refl, ap, ℕ, zero, suc, Bool, true, false, cond, List, [], ◌∷◌, length, map}
use Rattle.std.specs.Prelude.{Some, slice_get, filter, take}
use Rattle.sem_expr.specs.declared.expr.Side.TheVariants.{Uncompressed}
use Rattle.sem_profile.specs.declared.profile.Declared.{Declared}
use Rattle.sem_profile.specs.declared.profile.Field.{Field}
use Rattle.sem_filling.specs.declared.filling.AskedValue.{AskedValue}
use Rattle.sem_filling.specs.Fillings.{Sides, asked_values}
use Rattle.sem_filling.specs.Fits.{field_side}

abbrev values_cons : (b : Bool) (x : Sides) (xs : List Sides) → List AskedValue
values_cons true x xs = record { name = x.declared.name; bits = x.uncompressed } ∷ asked_values xs
values_cons false x xs = asked_values xs

asked_cons : (x : Sides) (xs : List Sides) → asked_values (x ∷ xs) ≡ values_cons x.declared.asked x xs
asked_cons x xs = by x.declared.asked where
  by : (b : Bool) → map (λ (s : Sides). record { name = s.declared.name; bits = s.uncompressed }) (cond b (x ∷ filter (λ s. s.declared.asked) xs) (filter (λ s. s.declared.asked) xs)) ≡ values_cons b x xs
  by true = refl
  by false = refl

-- that of an asked field stands after those of the asked ones before it
pub asked_at : (ds : List Field) (xs : List Sides) → map (λ (s : Sides). s.declared) xs ≡ map (λ (d : Field). d.declared) ds → (i : ℕ) (d : Field) → slice_get ds i ≡ Some d → d.declared.asked ≡ true →
    slice_get (asked_values xs) (length (filter (λ (d : Field). d.declared.asked) (take i ds))) ≡ Some (record { name = d.declared.name; bits = field_side (slice_get xs i) Uncompressed })
asked_at [] xs same i d e is = absurd (cc)
asked_at (x ∷ ds) [] same i d e is = absurd (cc)
asked_at (x ∷ ds) (s ∷ xs) same zero d e is =
    let here : s.declared ≡ x.declared = cc in
    let one : x ≡ d = cc in
    let declared : s.declared ≡ d.declared = here ∙ ap (λ (z : Field). z.declared) one in
    ap (λ z. slice_get z 0) (asked_cons s xs ∙ ap (λ b. values_cons b s xs) (ap (λ (z : Declared). z.asked) declared ∙ is)) ∙ (λ k. Some (record { name = (declared k).name; bits = s.uncompressed }))
asked_at (x ∷ ds) (s ∷ xs) same (suc i) d e is =
    let here : s.declared ≡ x.declared = cc in
    let later : map (λ (s : Sides). s.declared) xs ≡ map (λ (d : Field). d.declared) ds = cc in
    let found = asked_at ds xs later i d e is in
    ap (λ z. slice_get z (length (filter (λ (d : Field). d.declared.asked) (take (suc i) (x ∷ ds))))) (asked_cons s xs ∙ ap (λ b. values_cons b s xs) (ap (λ (z : Declared). z.asked) here)) ∙ by x.declared.asked found
  where
    by : (b : Bool) → slice_get (asked_values xs) (length (filter (λ (d : Field). d.declared.asked) (take i ds))) ≡ Some (record { name = d.declared.name; bits = field_side (slice_get xs i) Uncompressed }) →
        slice_get (values_cons b s xs) (length (cond b (x ∷ filter (λ (d : Field). d.declared.asked) (take i ds)) (filter (λ (d : Field). d.declared.asked) (take i ds)))) ≡ Some (record { name = d.declared.name; bits = field_side (slice_get xs i) Uncompressed })
    by true h = h
    by false h = h
