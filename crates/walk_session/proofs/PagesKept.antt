-- Pages that are kept by the ends of their flows.
use Rattle.std.proofs.Common.{◌≡◌, ◌∙◌, refl, sym, ap, subst, ℕ, zero, suc, Bool, true, false, nat_eq, List, [], ◌∷◌, ◌++◌, ◌⊎◌, inl, inr}
use Rattle.std.proofs.lemmas.Bool.{eqb-true, eqb-false}
use Rattle.std.specs.Prelude.{slice_get, slice_set, Option, Some, None, IfSome}
use Rattle.sem_pages.specs.declared.page.Page.{Page}
use Rattle.walk_session.specs.declared.ends.Ends.{Ends}
use Rattle.walk_session.specs.Pages.{AreKept, AreOthers, AreSame, AreWith, IsFrom}

set_here : {A : Type 0} (xs : List A) (i : ℕ) (y z : A) → slice_get (slice_set xs i y) i ≡ Some z → y ≡ z
set_here [] i y z at = absurd (cc)
set_here (x ∷ xs) zero y z at = let one : Some y ≡ Some z = at in cc
set_here (x ∷ xs) (suc i) y z at = set_here xs i y z at

set_other : {A : Type 0} (xs : List A) (i j : ℕ) (y : A) → (i ≡ j → ⊥) → slice_get (slice_set xs i y) j ≡ slice_get xs j
set_other [] i j y differ = refl
set_other (x ∷ xs) zero zero y differ = absurd (differ refl)
set_other (x ∷ xs) zero (suc j) y differ = refl
set_other (x ∷ xs) (suc i) zero y differ = refl
set_other (x ∷ xs) (suc i) (suc j) y differ = set_other xs i j y (λ e. differ (ap suc e))

module _ (Keeps : Ends → Page → Type 0) (flows : List Ends) where
  -- no page
  pub none_kept : (ps : List (Option Page)) → ps ≡ [] → AreKept Keeps flows ps
  none_kept ps none i p ends at there = let wrong : None ≡ Some (Some p) = sym (ap (λ z. slice_get z i) none) ∙ at in absurd cc

  -- the page that was taken
  pub taken_kept : (ps : List (Option Page)) (place : ℕ) (ends : Ends) (o : Option Page) → AreKept Keeps flows ps → slice_get flows place ≡ Some ends → IsFrom ps place o → IfSome o (Keeps ends)
  taken_kept ps place ends None kept there is = tt
  taken_kept ps place ends (Some p) kept there is = kept place p ends is there

  -- the others, where the ends at the place have changed
  pub others_kept : (old new : List (Option Page)) (place : ℕ) (ends : Ends) → AreKept Keeps flows old → AreOthers old place new → AreKept Keeps (slice_set flows place ends) new
  others_kept old new place ends kept others i p other at there =
      let was = others i p at in
      kept i p other was.0 (sym (set_other flows place i ends (λ e. was.1 (sym e))) ∙ there)

  -- with the one that these ends keep
  pub with_kept : (old now new : List (Option Page)) (place : ℕ) (ends : Ends) (own : Option Page) → AreKept Keeps flows old → AreOthers old place now → AreWith now place own new → IfSome own (Keeps ends) → AreKept Keeps (slice_set flows place ends) new
  with_kept old now new place ends own kept others with is i p other at there = by (with i p at)
    where
      by : (slice_get now i ≡ Some (Some p)) ⊎ ((i ≡ place) × (own ≡ Some p)) → Keeps other p
      by (inl was) = others_kept old now place ends kept others i p other was there
      by (inr here) =
          let same : ends ≡ other = set_here flows place ends other (sym (ap (slice_get (slice_set flows place ends)) here.0) ∙ there) in
          subst (λ z. Keeps z p) same (subst (λ o. IfSome o (Keeps ends)) here.1 is)

  -- the ends at the place have changed, but keep what was kept there
  pub still_kept : (ps : List (Option Page)) (place : ℕ) (was ends : Ends) → AreKept Keeps flows ps → slice_get flows place ≡ Some was → ((p : Page) → Keeps was p → Keeps ends p) → AreKept Keeps (slice_set flows place ends) ps
  still_kept ps place was ends kept there more i p other at is = by (nat_eq i place) refl
    where
      by : (b : Bool) → nat_eq i place ≡ b → Keeps other p
      by true e =
          let here : i ≡ place = eqb-true i place e in
          let same : ends ≡ other = set_here flows place ends other (sym (ap (slice_get (slice_set flows place ends)) here) ∙ is) in
          subst (λ z. Keeps z p) same (more p (kept place p was (sym (ap (slice_get ps) here) ∙ at) there))
      by false e = kept i p other at (sym (set_other flows place i ends (λ here. eqb-false i place e (sym here))) ∙ is)

-- ---- the list

pub pushed_same : (old xs : List (Option Page)) → AreSame old xs → AreSame old (xs ++ None ∷ [])
pushed_same old xs same i p at = same i p (by xs i at)
  where
    by : (ys : List (Option Page)) (k : ℕ) → slice_get (ys ++ None ∷ []) k ≡ Some (Some p) → slice_get ys k ≡ Some (Some p)
    by [] zero at' = let wrong : Some None ≡ Some (Some p) = at' in let never : None ≡ Some p = cc in absurd cc
    by [] (suc k) at' = let wrong : None ≡ Some (Some p) = at' in absurd cc
    by (y ∷ ys) zero at' = at'
    by (y ∷ ys) (suc k) at' = by ys k at'

pub same_with : (old now : List (Option Page)) (place : ℕ) (own : Option Page) → AreSame old now → AreWith old place own now
same_with old now place own same i p at = inl (same i p at)

pub set_with : (old now : List (Option Page)) (place : ℕ) (own : Option Page) → AreSame old now → AreWith old place own (slice_set now place own)
set_with old now place own same i p at = by (nat_eq i place) refl
  where
    by : (b : Bool) → nat_eq i place ≡ b → (slice_get old i ≡ Some (Some p)) ⊎ ((i ≡ place) × (own ≡ Some p))
    by true e =
        let here : i ≡ place = eqb-true i place e in
        inr (here, set_here now place own (Some p) (sym (ap (slice_get (slice_set now place own)) here) ∙ at))
    by false e = inl (same i p (sym (set_other now place i own (λ here. eqb-false i place e (sym here))) ∙ at))
