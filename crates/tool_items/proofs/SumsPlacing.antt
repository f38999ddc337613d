-- The listed fields of a filling, added place by place.
use Rattle.std.proofs.Common.{◌≡◌, refl, sym, ◌∙◌, ap, subst, ℕ, ◌+◌, ◌<◌, ◌≤◌, ◌⊎◌, inl, inr, zero, suc, List, [], ◌∷◌, length, map, get_or, set, arith}
use Rattle.std.specs.Prelude.{Option, Some, None, slice_get, option_and_then}
use Rattle.std.proofs.lemmas.Option.{slice_get-get_or, slice_get_past}
use Rattle.sem_filling.specs.Fillings.{fields_of, inner_at, inner_of, listing_of, sides_of}
use Rattle.sem_filling.specs.declared.filling.FilledField.{FilledField}
use Rattle.sem_filling.specs.declared.filling.Filling.{Filling}
use Rattle.tool_items.specs.declared.sums.PlaceSums.{PlaceSums}
use Rattle.tool_items.specs.Adding.{AddsInside, FieldAdds, ListedAdds, RowAdds, SamePlaces, SpotAdds}
use Rattle.tool_items.specs.Counts.{bits_at, inner_in, one_more, side_length}
use Rattle.tool_items.specs.Sums.{Row, Spot, spot_in, spot_of}
use Rattle.tool_items.proofs.CountsAdding.{side_there}

-- in a list of places
spot_set : (qs : List PlaceSums) (p : ℕ) (q : PlaceSums) → p < length qs → spot_in (set qs p q) p ≡ spot_of q
spot_set [] p q h = absurd (omega (arith, h))
spot_set (x ∷ xs) zero q h = refl
spot_set (x ∷ xs) (suc p) q h = spot_set xs p q (omega (arith, h))

spot_other : (qs : List PlaceSums) (p m : ℕ) (q : PlaceSums) → (p ≡ m → ⊥) → spot_in (set qs p q) m ≡ spot_in qs m
spot_other [] p m q e = refl
spot_other (x ∷ xs) zero zero q e = absurd (e refl)
spot_other (x ∷ xs) zero (suc m) q e = refl
spot_other (x ∷ xs) (suc p) zero q e = refl
spot_other (x ∷ xs) (suc p) (suc m) q e = spot_other xs p m q (λ h. e (ap suc h))

spot_read : (qs : List PlaceSums) (p : ℕ) (q : PlaceSums) → p < length qs → q ≡ get_or qs p q → spot_in qs p ≡ spot_of q
spot_read [] p q h e = absurd (omega (arith, h))
spot_read (x ∷ xs) zero q h e = ap spot_of (sym e)
spot_read (x ∷ xs) (suc p) q h e = spot_read xs p q (omega (arith, h)) e

length_set : (qs : List PlaceSums) (p : ℕ) (q : PlaceSums) → length (set qs p q) ≡ length qs
length_set [] p q = refl
length_set (x ∷ xs) zero q = refl
length_set (x ∷ xs) (suc p) q = ap suc (length_set xs p q)

-- what a filling gives to a place
mapped : (h : ℕ → ℕ) (xs : List ℕ) (p : ℕ) → p < length xs → get_or (map h xs) p 0 ≡ h (get_or xs p 0)
mapped h [] p lt = absurd (omega (arith, lt))
mapped h (x ∷ xs) zero lt = refl
mapped h (x ∷ xs) (suc p) lt = mapped h xs p (omega (arith, lt))

mapped_past : (h : ℕ → ℕ) (xs : List ℕ) (p : ℕ) → length xs ≤ p → get_or (map h xs) p 0 ≡ 0
mapped_past h [] p le = refl
mapped_past h (x ∷ xs) zero le = absurd (omega (arith, le))
mapped_past h (x ∷ xs) (suc p) le = mapped_past h xs p (omega (arith, le))

none_more : (s : Spot) (n : ℕ) (o : Option Filling) → n ≡ 0 → o ≡ None → SpotAdds n o s s
none_more s n o none empty = record { bits_are = omega (arith, none); inside_is = subst (λ x. AddsInside x s.inside s.inside) (sym empty) refl }

-- a field that stands at that index, or none
pub listed_some : (f : Filling) (k : ℕ) (g : FilledField) (o : Option FilledField) (q r : PlaceSums) → o ≡ slice_get (fields_of f) k → o ≡ Some g → FieldAdds g q r → ListedAdds f k q r
listed_some f k g o q r at is adds =
    let there : Some g ≡ slice_get (fields_of f) k = sym is ∙ at in
    subst (λ n. SpotAdds n (inner_at f k) (spot_of q) (spot_of r)) (sym (ap length (side_there f k (Some g) there)))
    (subst (λ x. SpotAdds (length (sides_of g).compressed) x (spot_of q) (spot_of r)) (ap (option_and_then inner_of) there) adds)

pub listed_none : (f : Filling) (k : ℕ) (o : Option FilledField) (q : PlaceSums) → o ≡ slice_get (fields_of f) k → o ≡ None → ListedAdds f k q q
listed_none f k o q at is =
    let there : None ≡ slice_get (fields_of f) k = sym is ∙ at in
    none_more (spot_of q) (side_length f k) (inner_at f k) (ap length (side_there f k None there)) (sym (ap (option_and_then inner_of) there))

-- the places before i have what the filling adds, and the others are as they were
pub record PlacesSoFar (f : Filling) (old : Row) (i : ℕ) (now : Row) : Type 0 where
  pub all_is : now.all ≡ one_more f old.all
  pub added : (p : ℕ) → p < i → SpotAdds (bits_at p f) (inner_in p f) (spot_in old.places p) (spot_in now.places p)
  pub as_before : (p : ℕ) → i ≤ p → spot_in now.places p ≡ spot_in old.places p
  pub room : length (listing_of f) ≤ length now.places

module _ (f : Filling) (old : Row) where
  pub places_start : (now : Row) → now.all ≡ one_more f old.all → SamePlaces old.places now.places → length (listing_of f) ≤ length now.places → PlacesSoFar f old 0 now
  places_start now all same room = record { all_is = all; added = λ p lt. absurd (omega (arith, lt)); as_before = λ p le. same p; room = room }

  at_or_below : (p i : ℕ) → p < i + 1 → (p < i) ⊎ (p ≡ i)
  at_or_below p zero lt = inr (omega (arith, lt))
  at_or_below zero (suc i) lt = inl (omega arith)
  at_or_below (suc p) (suc i) lt = elim (at_or_below p i (omega (arith, lt))) as (λ _. (suc p < suc i) ⊎ (suc p ≡ suc i)) [ inl h ↦ inl (omega (arith, h)) | inr h ↦ inr (ap suc h) ]

  -- one place more
  place_next : (i : ℕ) (now next : Row) → PlacesSoFar f old i now → next.all ≡ now.all → length now.places ≤ length next.places → ((p : ℕ) → (i ≡ p → ⊥) → spot_in next.places p ≡ spot_in now.places p)
      → SpotAdds (bits_at i f) (inner_in i f) (spot_in now.places i) (spot_in next.places i) → PlacesSoFar f old (i + 1) next
  place_next i now next so all long others here = record {
    all_is = all ∙ so.all_is;
    added = λ p lt. elim (at_or_below p i lt) as (λ _. SpotAdds (bits_at p f) (inner_in p f) (spot_in old.places p) (spot_in next.places p)) [
      | inl h ↦ subst (λ s. SpotAdds (bits_at p f) (inner_in p f) (spot_in old.places p) s) (sym (others p (λ e. absurd (omega (arith, e, h))))) (so.added p h)
      | inr h ↦ subst (λ k. SpotAdds (bits_at k f) (inner_in k f) (spot_in old.places k) (spot_in next.places k)) (sym h) (subst (λ s. SpotAdds (bits_at i f) (inner_in i f) s (spot_in next.places i)) (so.as_before i (omega arith)) here)
    ];
    as_before = λ p le. others p (λ e. absurd (omega (arith, e, le))) ∙ so.as_before p (omega (arith, le));
    room = omega (arith, so.room, long);
  }

  pub place_more : (i k : ℕ) (now next : Row) (q r : PlaceSums) → i < length (listing_of f) → k ≡ get_or (listing_of f) i 0 → q ≡ get_or now.places i q → ListedAdds f k q r → next.all ≡ now.all → next.places ≡ set now.places i r
      → PlacesSoFar f old i now → PlacesSoFar f old (i + 1) next
  place_more i k now next q r lt at read adds all is so =
      let inside : i < length now.places = omega (arith, lt, so.room) in
      let bits : side_length f k ≡ bits_at i f = ap (side_length f) at ∙ sym (mapped (side_length f) (listing_of f) i lt) in
      let inner : inner_at f k ≡ inner_in i f = ap (inner_at f) at ∙ sym (ap (option_and_then (inner_at f)) (slice_get-get_or (listing_of f) i 0 lt)) in
      let mine : SpotAdds (bits_at i f) (inner_in i f) (spot_of q) (spot_of r) =
      subst (λ n. SpotAdds n (inner_in i f) (spot_of q) (spot_of r)) bits (subst (λ x. SpotAdds (side_length f k) x (spot_of q) (spot_of r)) inner adds) in
      let here : SpotAdds (bits_at i f) (inner_in i f) (spot_in now.places i) (spot_in next.places i) =
      subst (λ qs. SpotAdds (bits_at i f) (inner_in i f) (spot_in now.places i) (spot_in qs i)) (sym is)
      (subst (λ s. SpotAdds (bits_at i f) (inner_in i f) s (spot_in (set now.places i r) i)) (sym (spot_read now.places i q inside read))
      (subst (λ s. SpotAdds (bits_at i f) (inner_in i f) (spot_of q) s) (sym (spot_set now.places i r inside)) mine)) in
      let long : length next.places ≡ length now.places = ap length is ∙ length_set now.places i r in
      place_next i now next so all (omega (arith, long)) (λ p other. ap (λ qs. spot_in qs p) is ∙ spot_other now.places i p r other) here

  pub places_end : (i : ℕ) (now : Row) → length (listing_of f) ≤ i → PlacesSoFar f old i now → RowAdds f old now
  places_end i now le so = record { all_is = so.all_is; places_add = λ p. by p (sort p i) }
    where
      sort : (p i : ℕ) → (p < i) ⊎ (i ≤ p)
      sort p zero = inr (omega arith)
      sort zero (suc i) = inl (omega arith)
      sort (suc p) (suc i) = elim (sort p i) as (λ _. (suc p < suc i) ⊎ (suc i ≤ suc p)) [ inl h ↦ inl (omega (arith, h)) | inr h ↦ inr (omega (arith, h)) ]

      by : (p : ℕ) → (p < i) ⊎ (i ≤ p) → SpotAdds (bits_at p f) (inner_in p f) (spot_in old.places p) (spot_in now.places p)
      by p (inl h) = so.added p h
      by p (inr h) =
          let past : length (listing_of f) ≤ p = omega (arith, le, h) in
          subst (λ s. SpotAdds (bits_at p f) (inner_in p f) (spot_in old.places p) s) (sym (so.as_before p h))
          (none_more (spot_in old.places p) (bits_at p f) (inner_in p f) (mapped_past (side_length f) (listing_of f) p past) (ap (option_and_then (inner_at f)) (slice_get_past (listing_of f) p past)))
