-- Lists by index, and the bounds of all fields by one pass over the constraints.
use Rattle.std.specs.Prelude.{ℕ, ◌+◌, List, [], ◌∷◌, slice_get, slice_set, Option, Some, None}
use Rattle.sem_profile.specs.declared.profile.Sizes.{Sizes}
use Rattle.sem_profile.specs.declared.profile.Constraint.{Constraint}
use Rattle.sem_profile.specs.declared.profile.Constraint.TheVariants.{Bracket, Enforce}
use Rattle.sem_profile.specs.Fields.{bracket_bounds, narrowed_by}

-- what f makes of each element and its index, counted from n
abbrev pub indexed : {A B : Type 0} → (ℕ → A → B) → ℕ → List A → List B
indexed f n [] = []
indexed f n (x ∷ xs) = f n x ∷ indexed f (n + 1) xs

-- the table with f at the place, where it has one
abbrev pub changed : {A : Type 0} → (A → A) → List A → ℕ → Option A → List A
changed f xs k (Some x) = slice_set xs k (f x)
changed f xs k None = xs

abbrev pub narrow : List Sizes → Constraint → List Sizes
narrow table (Bracket field side lengths place) = changed (narrowed_by (bracket_bounds lengths) side) table field (slice_get table field)
narrow table (Enforce condition place) = table

-- from left to right, with the index of each element, counted from n
abbrev pub folded : {A B : Type 0} → (ℕ → B → A → B) → ℕ → B → List A → B
folded f n b [] = b
folded f n b (x ∷ xs) = folded f (n + 1) (f n b x) xs
