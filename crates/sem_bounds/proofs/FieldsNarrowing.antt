-- One pass over the constraints gives each field its bounds.
use Rattle.std.proofs.Common.{◌≡◌, ◌∙◌, ap, refl, ℕ, List, [], ◌∷◌, cond, nat_eq, arith}
use Rattle.std.specs.Prelude.{fold}
use Rattle.sem_profile.specs.declared.profile.Sizes.{Sizes}
use Rattle.sem_profile.specs.declared.profile.Constraint.{Constraint}
use Rattle.sem_profile.specs.declared.profile.Constraint.TheVariants.{Bracket, Enforce}
use Rattle.sem_profile.specs.Fields.{narrowed, narrowed_by, bracket_bounds}
use Rattle.sem_profile.specs.Passes.{indexed, narrow}
use Rattle.sem_profile.proofs.PassesPlaces.{indexed-changed}

narrow-indexed : {A : Type 0} → (f : ℕ → A → Sizes) (xs : List A) (c : Constraint) → narrow (indexed f 0 xs) c ≡ indexed (λ i x. narrowed i (f i x) c) 0 xs
narrow-indexed f xs (Bracket field side lengths place) =
    indexed-changed (narrowed_by (bracket_bounds lengths) side) f 0 xs field
    ∙ ap (λ k. indexed (λ i x. cond (nat_eq k i) (narrowed_by (bracket_bounds lengths) side (f i x)) (f i x)) 0 xs) (omega arith)
narrow-indexed f xs (Enforce condition place) = refl

pub narrow-all : {A : Type 0} → (f : ℕ → A → Sizes) (xs : List A) (cs : List Constraint) → fold narrow (indexed f 0 xs) cs ≡ indexed (λ i x. fold (narrowed i) (f i x) cs) 0 xs
narrow-all f xs [] = refl
narrow-all f xs (c ∷ cs) = ap (λ t. fold narrow t cs) (narrow-indexed f xs c) ∙ narrow-all (λ i x. narrowed i (f i x) c) xs cs
