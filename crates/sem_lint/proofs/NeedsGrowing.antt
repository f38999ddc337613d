-- What fields need, by flags of sites.
use Rattle.std.proofs.Common.{◌≡◌, refl, ℕ, ◌+◌, ◌<◌, ◌≤◌, suc, Bool, true, false, List, length, take, get_or, ap, sym, ◌∙◌, subst, arith, inl, inr}
use Rattle.std.specs.Prelude.{Some, None, Result, Ok, Err, IfOk, ◌&&◌, nat_eq, slice_get}
use Rattle.std.specs.declared.alloc.AllocError.{AllocError}
use Rattle.sem_lint.proofs.SitesGrowing.{get_next}
use Rattle.std.specs.Bool.{Decides}
use Rattle.std.proofs.lemmas.Bool.Decides.{Decides-eqb}
use Rattle.std.proofs.lemmas.Option.{slice_get_within}
use Rattle.std.proofs.lemmas.List.{take_all}
use Rattle.sem_profile.specs.declared.profile.Encoding.{Encoding}
use Rattle.sem_profile.specs.declared.profile.Encoding.TheVariants as encoding
use Rattle.sem_profile.specs.declared.profile.Field.{Field}
use Rattle.sem_lint.specs.Paths.{called_by}
use Rattle.sem_lint.specs.Sites.{AreSites, SiteAt}
use Rattle.sem_lint.specs.Needs.{needs_reference, takes_reference}
use Rattle.sem_lint.specs.NeedsSteps.{AllServed, IsLeft, MayBe, Served, Usable, is_usable, leaves}
use Rattle.sem_lint.specs.declared.growth.Flags.{Flags}
use Rattle.sem_lint.specs.declared.growth.Ground.{Ground}
use Rattle.sem_lint.specs.declared.sites.Site.{Site}

both : (a b : Bool) → (a && b) ≡ true → (a ≡ true) × (b ≡ true)
both true b e = (refl, e)
both false b e = absurd (cc)

same_Some : {A : Type 0} (x y : A) → Some x ≡ Some y → x ≡ y
same_Some x y e = cc

-- ---- an entry that is left

abbrev pub NoneLeft : Ground → List Flags → List ℕ → List ℕ → ℕ → Type 0
NoneLeft g flags path name i = (j : ℕ) (s : Site) → j < i → slice_get g.sites.now j ≡ Some s → leaves g.methods.now flags path name j s ≡ true → ⊥

module _ (g : Ground) (flags : List Flags) (path name : List ℕ) where
  pub left_found : (j : ℕ) (s : Site) → slice_get g.sites.now j ≡ Some s → leaves g.methods.now flags path name j s ≡ true → Decides true (IsLeft g flags path name)
  left_found j s at is = (λ e. (j, s, at, is), λ left. refl)

  pub left_next : (i : ℕ) (s : Site) → slice_get g.sites.now i ≡ Some s → leaves g.methods.now flags path name i s ≡ false → NoneLeft g flags path name i → NoneLeft g flags path name (i + 1)
  left_next i s at isnt so j t h there is = by (nat_eq j i) refl
    where
      by : (b : Bool) → nat_eq j i ≡ b → ⊥
      by false apart = so j t (let other : j ≡ i → ⊥ = λ e. let yes : true ≡ false = sym ((Decides-eqb j i).1 e) ∙ apart in absurd (cc) in omega (arith, h, other)) there is
      by true same =
          let place : j ≡ i = (Decides-eqb j i).0 same in
          let site : s ≡ t = same_Some s t (sym at ∙ ap (slice_get g.sites.now) (sym place) ∙ there) in
          let wrong : true ≡ false = sym is ∙ ap (λ x. leaves g.methods.now flags path name j x) (sym site) ∙ ap (λ x. leaves g.methods.now flags path name x s) place ∙ isnt in
          absurd (cc)

  pub left_none : (i : ℕ) → length g.sites.now ≤ i → NoneLeft g flags path name i → Decides false (IsLeft g flags path name)
  left_none i over so = (λ e. absurd (cc), λ left. absurd (so left.0 left.1 (let within = slice_get_within g.sites.now left.0 left.1 left.2 in omega (arith, over, within)) left.2 left.3))

-- ---- a call

pub usable_found : (g : Ground) (flags : List Flags) (m : ℕ) (path : List ℕ) (j : ℕ) (b : Bool) → AreSites g.methods.now g.top g.sites.now → SiteAt g.sites.now j m path → b ≡ is_usable flags j → Decides b (Usable g flags m path)
usable_found g flags m path j b sites here is =
    (λ e. (j, here, sym is ∙ e), λ usable. is ∙ ap (is_usable flags) (sites.some.once j usable.0 m path here usable.1) ∙ usable.2)

-- ---- a field

-- a field with a library method calls nothing
calls_none : (e : Encoding) (m : ℕ) → takes_reference e ≡ true → called_by e ≡ Some m → ⊥
calls_none (encoding.Library l) m takes calls = let wrong : None ≡ Some m = calls in absurd (cc)
calls_none (encoding.Call k es) m takes calls = let wrong : false ≡ true = takes in absurd (cc)
calls_none encoding.Bare m takes calls = let wrong : None ≡ Some m = calls in absurd (cc)

pub takes_it : (d : Field) → needs_reference d ≡ true → takes_reference d.encoding ≡ true
takes_it d e = (both (takes_reference d.encoding) _ e).0

-- a field that calls a method needs no entry
pub call_alone : (d : Field) (m : ℕ) → called_by d.encoding ≡ Some m → needs_reference d ≡ true → ⊥
call_alone d m calls needs = calls_none d.encoding m (takes_it d needs) calls

pub served_by_entry : (g : Ground) (flags : List Flags) (path : List ℕ) (d : Field) (r : Result Bool AllocError) → needs_reference d ≡ true → IfOk r (λ is. Decides is (MayBe g flags path d.declared.name))
    → IfOk r (λ is. Decides is (Served g flags path d))
served_by_entry g flags path d (Err e) needs h = tt
served_by_entry g flags path d (Ok is) needs h =
    (λ e. record { entry = λ _. h.0 e; call = λ m calls. absurd (call_alone d m calls needs) }, λ served. h.1 (served.entry needs))

-- ---- fields

pub served_next : (g : Ground) (flags : List Flags) (path : List ℕ) (fields : List Field) (i : ℕ) (d : Field) (b : Bool) → d ≡ get_or fields i d → Decides b (Served g flags path d) → b ≡ true → AllServed g flags path (take i fields)
    → AllServed g flags path (take (i + 1) fields)
served_next g flags path fields i d b is told e so j x at =
    let more : suc i ≡ i + 1 = omega arith in
    elim (get_next fields i d j x (subst (λ n. slice_get (take n fields) j ≡ Some x) (sym more) at)) [
      | inl before ↦ so j x before
      | inr this ↦ subst (Served g flags path) (is ∙ this) (told.0 e)
    ]

pub served_end : (g : Ground) (flags : List Flags) (path : List ℕ) (fields : List Field) (i : ℕ) → length fields ≤ i → AllServed g flags path (take i fields) → AllServed g flags path fields
served_end g flags path fields i over so = subst (AllServed g flags path) (take_all i fields over) so
