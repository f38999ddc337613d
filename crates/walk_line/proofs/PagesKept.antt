-- Pages that are kept by the contexts of their flows.
use Rattle.std.proofs.Common.{◌≡◌, ◌∙◌, refl, sym, ap, subst, ℕ, zero, suc, ◌+◌, ◌<◌, ◌≤◌, Bool, true, false, nat_eq, List, [], ◌∷◌, ◌++◌, ◌⊎◌, inl, inr}
use Rattle.std.proofs.lemmas.Bool.{eqb-true, eqb-false}
use Rattle.std.specs.Prelude.{slice_get, slice_set, Option, Some, None, IfSome}
use Rattle.sem_context.specs.Entries.{Entries}
use Rattle.sem_pages.specs.declared.page.Page.{Page}
use Rattle.cert_accepted.specs.Accepted.{Accepting}
use Rattle.walk_line.proofs.Flows.{get_set_other}
use Rattle.walk_line.specs.Lines.{Contexts}
use Rattle.walk_line.specs.Pages.{AreKeptBy, AreOthers, AreSame, AreWith, IsFrom}
use Rattle.walk_pages.specs.Kept.{IsKeptBy}

-- no page
pub none_kept : (a : Accepting) (s : Contexts) (ps : List (Option Page)) → ps ≡ [] → AreKeptBy a s ps
none_kept a s ps none i p ctx at there = let wrong : None ≡ Some (Some p) = sym (ap (λ z. slice_get z i) none) ∙ at in absurd cc

set_here : {A : Type 0} (xs : List A) (i : ℕ) (y z : A) → slice_get (slice_set xs i y) i ≡ Some z → y ≡ z
set_here [] i y z at = absurd (cc)
set_here (x ∷ xs) zero y z at = let one : Some y ≡ Some z = at in cc
set_here (x ∷ xs) (suc i) y z at = set_here xs i y z at

-- the page that was taken
pub taken_kept : (a : Accepting) (s : Contexts) (ps : List (Option Page)) (place : ℕ) (ctx : Entries) (o : Option Page) → AreKeptBy a s ps → slice_get s place ≡ Some ctx → IsFrom ps place o → IfSome o (IsKeptBy a ctx)
taken_kept a s ps place ctx None kept there is = tt
taken_kept a s ps place ctx (Some p) kept there is = kept place p ctx is there

-- the others, where the context at the place has changed
pub others_kept : (a : Accepting) (s : Contexts) (old new : List (Option Page)) (place : ℕ) (ctx : Entries) → AreKeptBy a s old → AreOthers old place new → AreKeptBy a (slice_set s place ctx) new
others_kept a s old new place ctx kept others i p c at there =
    let was = others i p at in
    kept i p c was.0 (sym (get_set_other s place i ctx (λ e. was.1 (sym e))) ∙ there)

-- with the one that is kept by the changed context
pub with_kept : (a : Accepting) (s : Contexts) (old now new : List (Option Page)) (place : ℕ) (ctx : Entries) (own : Option Page) → AreKeptBy a s old → AreOthers old place now → AreWith now place own new → IfSome own (IsKeptBy a ctx) → AreKeptBy a (slice_set s place ctx) new
with_kept a s old now new place ctx own kept others with is i p c at there = by (with i p at)
  where
    by : (slice_get now i ≡ Some (Some p)) ⊎ ((i ≡ place) × (own ≡ Some p)) → IsKeptBy a c p
    by (inl was) = others_kept a s old now place ctx kept others i p c was there
    by (inr here) =
        let same : ctx ≡ c = set_here s place ctx c (sym (ap (slice_get (slice_set s place ctx)) here.0) ∙ there) in
        subst (λ z. IsKeptBy a z p) same (subst (λ o. IfSome o (IsKeptBy a ctx)) here.1 is)

-- ---- the list

pub pushed_same : (old xs : List (Option Page)) → AreSame old xs → AreSame old (xs ++ None ∷ [])
pushed_same old xs same i p at = same i p (by xs i at)
  where
    by : (ys : List (Option Page)) (k : ℕ) → slice_get (ys ++ None ∷ []) k ≡ Some (Some p) → slice_get ys k ≡ Some (Some p)
    by [] zero at' = let wrong : Some None ≡ Some (Some p) = at' in let never : None ≡ Some p = cc in absurd cc
    by [] (suc k) at' = let wrong : None ≡ Some (Some p) = at' in absurd cc
    by (y ∷ ys) zero at' = at'
    by (y ∷ ys) (suc k) at' = by ys k at'

pub same_with : (old now : List (Option Page)) (place : ℕ) (own : Option Page) → AreSame old now → AreWith old place own now
same_with old now place own same i p at = inl (same i p at)

pub set_with : (old now : List (Option Page)) (place : ℕ) (own : Option Page) → AreSame old now → AreWith old place own (slice_set now place own)
set_with old now place own same i p at = by (nat_eq i place) refl
  where
    by : (b : Bool) → nat_eq i place ≡ b → (slice_get old i ≡ Some (Some p)) ⊎ ((i ≡ place) × (own ≡ Some p))
    by true e =
        let here : i ≡ place = eqb-true i place e in
        inr (here, set_here now place own (Some p) (sym (ap (slice_get (slice_set now place own)) here) ∙ at))
    by false e = inl (same i p (sym (get_set_other now place i own (λ here. eqb-false i place e (sym here))) ∙ at))
