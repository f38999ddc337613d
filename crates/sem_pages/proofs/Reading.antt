-- A level that is read field by field.
use Rattle.std.proofs.Common.{◌≡◌, ◌∙◌, refl, sym, ap, subst, ℕ, suc, zero, Bool, true, false, nat_eq, List, [], ◌∷◌}
use Rattle.std.specs.Prelude.{slice_get, slice_set, Some, None}
use Rattle.std.proofs.lemmas.Bool.{eqb-true, eqb-false}
use Rattle.std.proofs.lemmas.List.{length-set}
use Rattle.sem_expr.specs.declared.expr.Side.{Side}
use Rattle.sem_expr.specs.declared.expr.Side.TheVariants.{Uncompressed, Compressed}
use Rattle.sem_expr.specs.declared.expr.Subject.{Subject}
use Rattle.sem_expr.specs.declared.expr.Subject.TheVariants as subject
use Rattle.sem_profile.specs.declared.profile.Field.{Field}
use Rattle.sem_profile.specs.declared.profile.Format.{Format}
use Rattle.sem_profile.specs.declared.profile.Method.{Method}
use Rattle.sem_filling.specs.Entries.{Path}
use Rattle.sem_filling.specs.Fits.{Context}
use Rattle.sem_pages.specs.declared.page.Shown.{Shown}
use Rattle.sem_pages.specs.Pages.{Looked, Seen, Bears, shown_side, seen_side, FitsOn, IsWhole, Keeps, AreRead}

set_here : {A : Type 0} (xs : List A) (i : ℕ) (x y : A) → slice_get xs i ≡ Some x → slice_get (slice_set xs i y) i ≡ Some y
set_here [] i x y at = let wrong : None ≡ Some x = at in absurd cc
set_here (z ∷ xs) zero x y at = refl
set_here (z ∷ xs) (suc i) x y at = set_here xs i x y at

set_other : {A : Type 0} (xs : List A) (i k : ℕ) (y : A) → (k ≡ i → ⊥) → slice_get (slice_set xs i y) k ≡ slice_get xs k
set_other [] i k y apart = refl
set_other (z ∷ xs) zero zero y apart = absurd (apart refl)
set_other (z ∷ xs) zero (suc k) y apart = refl
set_other (z ∷ xs) (suc i) zero y apart = refl
set_other (z ∷ xs) (suc i) (suc k) y apart = set_other xs i k y (λ e. apart (ap suc e))

-- what is seen, where this stands at a place
abbrev pub seen_with : Seen → ℕ → Shown → Seen
seen_with v i t = record { fields = slice_set v.fields i t; arguments = v.arguments; header = v.header; packed = v.packed }

module _ (v : Seen) (i : ℕ) (s t : Shown) (here : slice_get v.fields i ≡ Some s) (keeps : Keeps s t) where
  kept : (k : ℕ) (side : Side) (b : List Bool) → shown_side (slice_get v.fields k) side ≡ Some b → shown_side (slice_get (slice_set v.fields i t) k) side ≡ Some b
  kept k side b at = by (nat_eq k i) refl
    where
      by : (e : Bool) → nat_eq k i ≡ e → shown_side (slice_get (slice_set v.fields i t) k) side ≡ Some b
      by true e =
          let same : k ≡ i = eqb-true k i e in
          let there : slice_get (slice_set v.fields i t) k ≡ Some t = ap (slice_get (slice_set v.fields i t)) same ∙ set_here v.fields i s t here in
          let was : shown_side (Some s) side ≡ Some b = sym (ap (λ o. shown_side o side) (ap (slice_get v.fields) same ∙ here)) ∙ at in
          ap (λ o. shown_side o side) there ∙ keeps side b was
      by false e = ap (λ o. shown_side o side) (set_other v.fields i k t (eqb-false k i e)) ∙ at

  side_kept : (x : Subject) (side : Side) (b : List Bool) → seen_side v x side ≡ Some b → seen_side (seen_with v i t) x side ≡ Some b
  side_kept (subject.Field k) side b at = kept k side b at
  side_kept subject.This Uncompressed b at = at
  side_kept subject.This Compressed b at = at

  pub bears_less : (l : Looked) → Bears l (seen_with v i t) → Bears l v
  bears_less l bears = record { arguments_are = bears.arguments_are; sides_are = λ x side b at. bears.sides_are x side b (side_kept x side b at) }

  pub set_read : (methods : List Method) (ctx : Context) (path : Path) (format : Format) (solved : List ℕ)
      → ((d : Field) (u c : List Bool) → slice_get format.fields i ≡ Some d → IsWhole t u c → FitsOn methods ctx path v d t)
      → AreRead methods ctx path format v solved → AreRead methods ctx path format (seen_with v i t) solved
  set_read methods ctx path format solved new old = record {
    count = length-set v.fields i t ∙ old.count;
    fields = λ k d z u c at there whole. by k d z u c at there whole (nat_eq k i) refl;
    constraints = λ n j c at there l bears. old.constraints n j c at there l (bears_less l bears);
  }
    where
      by : (k : ℕ) (d : Field) (z : Shown) (u c : List Bool) → slice_get format.fields k ≡ Some d → slice_get (slice_set v.fields i t) k ≡ Some z → IsWhole z u c → (e : Bool) → nat_eq k i ≡ e → FitsOn methods ctx path (seen_with v i t) d z
      by k d z u c at there whole true e =
          let same : k ≡ i = eqb-true k i e in
          let one : Some t ≡ Some z = sym (ap (slice_get (slice_set v.fields i t)) same ∙ set_here v.fields i s t here) ∙ there in
          let is : t ≡ z = cc in
          λ l bears. subst (λ (x : Shown). FitsOn methods ctx path v d x) is (new d u c (sym (ap (slice_get format.fields) same) ∙ at) (subst (λ (x : Shown). IsWhole x u c) (sym is) whole)) l (bears_less l bears)
      by k d z u c at there whole false e = λ l bears. old.fields k d z u c at (sym (set_other v.fields i k t (eqb-false k i e)) ∙ there) whole l (bears_less l bears)
