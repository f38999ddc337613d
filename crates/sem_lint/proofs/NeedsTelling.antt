-- Formats that are never used, by what is known of sites.
use Rattle.std.proofs.Common.{◌≡◌, refl, ℕ, ◌+◌, ◌<◌, ◌≤◌, suc, zero, Bool, true, false, List, [], ◌∷◌, ◌++◌, length, ap, sym, ◌∙◌, subst, arith, inl, inr}
use Rattle.std.specs.Prelude.{Option, Some, None, IfSome, IfNone, is_some, not, ◌&&◌, nat_eq, slice_get, string_bytes, option_and_then, unwrap_or}
use Rattle.std.specs.Bool.{Decides}
use Rattle.std.proofs.lemmas.Bool.Decides.{Decides-eqb}
use Rattle.std.proofs.lemmas.Option.{slice_get_within}
use Rattle.sem_profile.specs.declared.profile.Format.{Format}
use Rattle.sem_profile.specs.declared.profile.Method.{Method}
use Rattle.sem_profile.specs.Resolved.{Resolved}
use Rattle.sem_lint.specs.Sites.{SiteAt}
use Rattle.sem_lint.specs.Needs as needs
use Rattle.sem_lint.specs.NeedsSteps.{AllServed, Served, Unserved, is_reached}
use Rattle.sem_lint.specs.NeedsTold.{IsReachedAt, IsServedAt, IsServedSomewhere, TellsOne, TellsRow, is_reached_as}
use Rattle.sem_lint.specs.declared.growth.Flags.{Flags}
use Rattle.sem_lint.specs.declared.growth.Ground.{Ground}
use Rattle.sem_lint.specs.declared.sites.Site.{Site}
use Rattle.sem_lint.proofs.SitesGrowing.{both, get_either, same_site}

same_Some : {A : Type 0} (x y : A) → Some x ≡ Some y → x ≡ y
same_Some x y e = cc

-- a place before the next is before this one, or this one
before_or_here : (j i : ℕ) → j < i + 1 → (j ≡ i → ⊥) → j < i
before_or_here j i h apart = omega (arith, h, apart)

by_place : {P : Type 0} (j i : ℕ) → j < i + 1 → (j < i → P) → (j ≡ i → P) → P
by_place {P} j i h before here = by (nat_eq j i) refl
  where
    by : (b : Bool) → nat_eq j i ≡ b → P
    by true is = here ((Decides-eqb j i).0 is)
    by false is = before (before_or_here j i h (λ e. let yes : true ≡ false = sym ((Decides-eqb j i).1 e) ∙ is in absurd (cc)))

-- ---- a site that is reached

abbrev pub NoneReached : Ground → List Flags → ℕ → ℕ → Type 0
NoneReached g flags k i = (j : ℕ) → j < i → IsReachedAt g flags k j → ⊥

as_it_is : (g : Ground) (flags : List Flags) (k j : ℕ) (s : Site) → slice_get g.sites.now j ≡ Some s → IsReachedAt g flags k j → is_reached_as flags k j s ≡ true
as_it_is g flags k j s at (path, here, on) =
    let (m, p) = same_site g.sites.now j k path s at here in
    ap (λ b. b && is_reached flags j) ((Decides-eqb s.method k).1 m) ∙ on

pub reached_found : (g : Ground) (flags : List Flags) (k j : ℕ) (s : Site) → slice_get g.sites.now j ≡ Some s → is_reached_as flags k j s ≡ true → IsReachedAt g flags k j
reached_found g flags k j s at is =
    let (m, on) = both (nat_eq s.method k) (is_reached flags j) is in
    (string_bytes s.path, record { site = s; site_at = at; method_is = (Decides-eqb s.method k).0 m; path_is = refl }, on)

pub reached_next : (g : Ground) (flags : List Flags) (k i : ℕ) (s : Site) → slice_get g.sites.now i ≡ Some s → is_reached_as flags k i s ≡ false → NoneReached g flags k i → NoneReached g flags k (i + 1)
reached_next g flags k i s at isnt so j h there =
    by_place j i h (λ before. so j before there) (λ same. let wrong : true ≡ false = sym (as_it_is g flags k i s at (subst (IsReachedAt g flags k) same there)) ∙ isnt in absurd (cc))

pub reached_none : (g : Ground) (flags : List Flags) (k i : ℕ) → length g.sites.now ≤ i → NoneReached g flags k i → (j : ℕ) → IsReachedAt g flags k j → ⊥
reached_none g flags k i over so j there = so j (let inside = slice_get_within g.sites.now j there.1.site there.1.site_at in omega (arith, over, inside)) there

-- ---- a site at which a format has what it needs

pub not_reached_at : (g : Ground) (flags : List Flags) (k : ℕ) (f : Format) (j : ℕ) (s : Site) → slice_get g.sites.now j ≡ Some s → is_reached_as flags k j s ≡ false → Decides false (IsServedAt g flags k f j)
not_reached_at g flags k f j s at isnt =
    (λ e. absurd (let wrong : false ≡ true = e in cc), λ served. let wrong : true ≡ false = sym (as_it_is g flags k j s at (served.0, served.1, served.2)) ∙ isnt in absurd (cc))

pub served_at : (g : Ground) (flags : List Flags) (k : ℕ) (f : Format) (j : ℕ) (s : Site) (path : List ℕ) (o : Option ℕ) (b : Bool) → slice_get g.sites.now j ≡ Some s → is_reached_as flags k j s ≡ true → path ≡ string_bytes s.path
    → IfSome o (Unserved g flags path f.fields) → IfNone o (AllServed g flags path f.fields) → is_some o ≡ not b → Decides b (IsServedAt g flags k f j)
served_at g flags k f j s path None false at is same found none e = absurd (let wrong : false ≡ true = e in cc)
served_at g flags k f j s path None true at is same found none e =
    let (m, on) = both (nat_eq s.method k) (is_reached flags j) is in
    let here : SiteAt g.sites.now j k path = record { site = s; site_at = at; method_is = (Decides-eqb s.method k).0 m; path_is = sym same } in
    (λ y. (path, here, on, none), λ served. refl)
served_at g flags k f j s path (Some i) true at is same found none e = absurd (let wrong : true ≡ false = e in cc)
served_at g flags k f j s path (Some i) false at is same found none e = (
  λ y. absurd (let wrong : false ≡ true = y in cc),
  λ served.
      let (m, p) = same_site g.sites.now j k served.0 s at served.1 in
      absurd (found.lacks (subst (λ z. Served g flags z found.field) (sym p ∙ sym same) (served.3 i found.field found.field_at))),
)

abbrev pub NoneServed : Ground → List Flags → ℕ → Format → ℕ → Type 0
NoneServed g flags k f i = (j : ℕ) → j < i → IsServedAt g flags k f j → ⊥

pub served_found : (g : Ground) (flags : List Flags) (k : ℕ) (f : Format) (j : ℕ) (b : Bool) → Decides b (IsServedAt g flags k f j) → b ≡ true → Decides true (IsServedSomewhere g flags k f)
served_found g flags k f j b told is = (λ e. (j, told.0 is), λ some. refl)

pub served_next : (g : Ground) (flags : List Flags) (k : ℕ) (f : Format) (i : ℕ) (b : Bool) → Decides b (IsServedAt g flags k f i) → b ≡ false → NoneServed g flags k f i → NoneServed g flags k f (i + 1)
served_next g flags k f i b told is so j h there =
    by_place j i h (λ before. so j before there) (λ same. let wrong : true ≡ false = sym (told.1 (subst (IsServedAt g flags k f) same there)) ∙ is in absurd (cc))

pub served_none : (g : Ground) (flags : List Flags) (k : ℕ) (f : Format) (i : ℕ) → length g.sites.now ≤ i → NoneServed g flags k f i → Decides false (IsServedSomewhere g flags k f)
served_none g flags k f i over so =
    (λ e. absurd (let wrong : false ≡ true = e in cc), λ some. absurd (so some.0 (let inside = slice_get_within g.sites.now some.0 some.1.1.site some.1.1.site_at in omega (arith, over, inside)) some.1))

-- ---- the table of obstacles

pub row_start : (p : Resolved) (k : ℕ) (row : List Bool) → row ≡ [] → TellsRow p k 0 row
row_start p k row is = (ap length is, λ n b at. absurd (let none : None ≡ Some b = sym (ap (λ r. slice_get r n) is) ∙ at in cc))

pub row_next : (p : Resolved) (k n : ℕ) (old new : List Bool) (b : Bool) → TellsRow p k n old → TellsOne p k n b → new ≡ old ++ b ∷ [] → TellsRow p k (n + 1) new
row_next p k n old new b so one is = (
  longer,
  λ m x at. elim (get_either old b m x (ap (λ r. slice_get r m) (sym is) ∙ at)) [
    | inl before ↦ so.1 m x before
    | inr (place, same) ↦ subst (TellsOne p k m) same (subst (λ i. TellsOne p k i b) (sym (place ∙ so.0)) one)
  ],
)
  where
    grown : (xs : List Bool) (y : Bool) → length (xs ++ y ∷ []) ≡ length xs + 1
    grown [] y = refl
    grown (x ∷ xs) y = let rest = grown xs y in omega (arith, rest)

    longer : length new ≡ n + 1
    longer = ap length is ∙ grown old b ∙ ap (λ i. i + 1) so.0

-- the rows so far
pub record RowsSoFar (p : Resolved) (count : ℕ) (all : List (List Bool)) : Type 0 where
  pub as_many : length all ≡ count
  pub each : (k : ℕ) (m : Method) (row : List Bool) → slice_get p.methods k ≡ Some m → slice_get all k ≡ Some row → TellsRow p k (length m.formats) row

pub rows_start : (p : Resolved) (all : List (List Bool)) → all ≡ [] → RowsSoFar p 0 all
rows_start p all is = record { as_many = ap length is; each = λ k m row at here. absurd (let none : None ≡ Some row = sym (ap (λ r. slice_get r k) is) ∙ here in cc) }

pub rows_next : (p : Resolved) (k : ℕ) (old new : List (List Bool)) (row : List Bool) (m : Method) → RowsSoFar p k old → slice_get p.methods k ≡ Some m → TellsRow p k (length m.formats) row → new ≡ old ++ row ∷ [] → RowsSoFar p (k + 1) new
rows_next p k old new row m so at one is = record {
  as_many = ap length is ∙ grown old row ∙ ap (λ i. i + 1) so.as_many;
  each = λ i x r there here. elim (get_either old row i r (ap (λ z. slice_get z i) (sym is) ∙ here)) [
    | inl before ↦ so.each i x r there before
    | inr (place, same) ↦
        let i_k : i ≡ k = place ∙ so.as_many in
        let m_x : m ≡ x = same_Some m x (sym at ∙ sym (ap (slice_get p.methods) i_k) ∙ there) in
        subst (TellsRow p i (length x.formats)) same (subst (λ z. TellsRow p z (length x.formats) row) (sym i_k) (subst (λ (z : Method). TellsRow p k (length z.formats) row) m_x one))
  ];
}
  where
    grown : (xs : List (List Bool)) (y : List Bool) → length (xs ++ y ∷ []) ≡ length xs + 1
    grown [] y = refl
    grown (x ∷ xs) y = let rest = grown xs y in omega (arith, rest)

there : {A : Type 0} (xs : List A) (i : ℕ) → i < length xs → (x : A) × (slice_get xs i ≡ Some x)
there [] i h = absurd (omega (arith, h))
there (x ∷ xs) zero h = (x, refl)
there (x ∷ xs) (suc i) h = there xs i (omega (arith, h))

format_parts : (methods : List Method) (k n : ℕ) (f : Format) (o : Option Method) → slice_get methods k ≡ o → option_and_then (λ (m : Method). slice_get m.formats n) o ≡ Some f
    → (m : Method) × (slice_get methods k ≡ Some m) × (slice_get m.formats n ≡ Some f)
format_parts methods k n f None at is = absurd (let none : None ≡ Some f = is in cc)
format_parts methods k n f (Some m) at is = (m, at, is)

pub rows_tell : (p : Resolved) (all : List (List Bool)) (count : ℕ) → length p.methods ≤ count → RowsSoFar p count all → needs.TellsObstacles p all
rows_tell p all count over so k n f is =
    let (m, at, in_m) = format_parts p.methods k n f (slice_get p.methods k) refl is in
    let inside = slice_get_within p.methods k m at in
    let (row, here) = there all k (let many = so.as_many in omega (arith, over, inside, many)) in
    let one = so.each k m row at here in
    let within = slice_get_within m.formats n f in_m in
    let (b, there_b) = there row n (let many = one.0 in omega (arith, within, many)) in
    let dead : needs.is_dead all k n ≡ b = ap (λ o. unwrap_or (option_and_then (λ (r : List Bool). slice_get r n) o) false) here ∙ ap (λ o. unwrap_or o false) there_b in
    let told = one.1 n b there_b in
    (λ e. told.0 (sym dead ∙ e), λ e. told.1 (sym dead ∙ e))
