-- Lists of sites that grow.
use Rattle.std.proofs.Common.{◌≡◌, refl, ℕ, ◌+◌, ◌<◌, ◌≤◌, suc, zero, Bool, true, false, List, [], ◌∷◌, ◌++◌, length, take, get_or, ap, sym, ◌∙◌, subst, arith, inl, inr}
use Rattle.std.specs.Prelude.{Option, Some, None, IfSome, IfNone, is_some, ◌&&◌, ◌⊎◌, nat_eq, slice_get, string_bytes, option_and_then}
use Rattle.std.specs.Str.{bytes_eq}
use Rattle.std.proofs.lemmas.Slice.Eq.{bytes_eq-Decides}
use Rattle.std.proofs.lemmas.Bool.Decides.{Decides-eqb}
use Rattle.std.proofs.lemmas.Option.{slice_get_within}
use Rattle.sem_profile.specs.declared.profile.Field.{Field}
use Rattle.sem_profile.specs.declared.profile.Format.{Format}
use Rattle.sem_profile.specs.declared.profile.Method.{Method}
use Rattle.sem_lint.specs.Paths.{called_by}
use Rattle.sem_lint.specs.Sites.{AreMore, AreSites, AreSome, HasCall, Holds, IsSite, SiteAt, format_in, inner_path, is_site, of_call, of_top}
use Rattle.sem_lint.specs.SitesSteps.{Adds, CallsIn, CallsInFormats, CallsOf, IsFirst, IsFollowed, Step, put_last, was_there}
use Rattle.sem_lint.specs.declared.sites.Site.{Site}

pub both : (a b : Bool) → (a && b) ≡ true → (a ≡ true) × (b ≡ true)
both true b e = (refl, e)
both false b e = absurd (cc)

same_Some : {A : Type 0} (x y : A) → Some x ≡ Some y → x ≡ y
same_Some x y e = cc

-- ---- places in a longer list

get_front : {A : Type 0} (xs ys : List A) (i : ℕ) (x : A) → slice_get xs i ≡ Some x → slice_get (xs ++ ys) i ≡ Some x
get_front [] ys i x e = absurd (let none : None ≡ Some x = e in cc)
get_front (z ∷ xs) ys zero x e = e
get_front (z ∷ xs) ys (suc i) x e = get_front xs ys i x e

pub get_last : {A : Type 0} (xs : List A) (y : A) → slice_get (xs ++ y ∷ []) (length xs) ≡ Some y
get_last [] y = refl
get_last (z ∷ xs) y = get_last xs y

-- an element is one of those before, or the last
pub get_either : {A : Type 0} (xs : List A) (y : A) (i : ℕ) (x : A) → slice_get (xs ++ y ∷ []) i ≡ Some x → (slice_get xs i ≡ Some x) ⊎ ((i ≡ length xs) × (y ≡ x))
get_either [] y zero x e = inr (refl, same_Some y x e)
get_either [] y (suc i) x e = absurd (let none : None ≡ Some x = e in cc)
get_either (z ∷ xs) y zero x e = inl e
get_either (z ∷ xs) y (suc i) x e = elim (get_either xs y i x e) [
  | inl before ↦ inl before
  | inr (at, is) ↦ inr (ap suc at, is)
]

-- an element of one more than so many is one of these, or the next
pub get_next : {A : Type 0} (xs : List A) (n : ℕ) (d : A) (i : ℕ) (x : A) → slice_get (take (suc n) xs) i ≡ Some x → (slice_get (take n xs) i ≡ Some x) ⊎ (get_or xs n d ≡ x)
get_next [] zero d i x e = absurd (let none : None ≡ Some x = e in cc)
get_next [] (suc n) d i x e = absurd (let none : None ≡ Some x = e in cc)
get_next (z ∷ xs) zero d zero x e = inr (same_Some z x e)
get_next (z ∷ xs) zero d (suc i) x e = absurd (let none : None ≡ Some x = e in cc)
get_next (z ∷ xs) (suc n) d zero x e = inl e
get_next (z ∷ xs) (suc n) d (suc i) x e = get_next xs n d i x e

-- an element among so many is one among one more
pub kept_in : {A : Type 0} (xs : List A) (n j : ℕ) (x : A) → slice_get (take n xs) j ≡ Some x → slice_get (take (suc n) xs) j ≡ Some x
kept_in [] zero j x e = e
kept_in [] (suc n) j x e = e
kept_in (z ∷ xs) zero j x e = absurd (let none : None ≡ Some x = e in cc)
kept_in (z ∷ xs) (suc n) zero x e = e
kept_in (z ∷ xs) (suc n) (suc j) x e = kept_in xs n j x e

pub element : {A : Type 0} (xs : List A) (n : ℕ) {x : A} → n < length xs → x ≡ get_or xs n x → slice_get (take (suc n) xs) n ≡ Some x
element [] n h e = absurd (omega (arith, h))
element (z ∷ xs) zero h e = ap Some (sym e)
element (z ∷ xs) (suc n) h e = element xs n (omega (arith, h)) e

pub slice_get_there : {A : Type 0} (xs : List A) (i : ℕ) → i < length xs → (x : A) × (slice_get xs i ≡ Some x)
slice_get_there [] i h = absurd (omega (arith, h))
slice_get_there (x ∷ xs) zero h = (x, refl)
slice_get_there (x ∷ xs) (suc i) h = slice_get_there xs i (omega (arith, h))

-- ---- one more site

last_is : (sites : List Site) (s : Site) (k : ℕ) (path : List ℕ) → s.method ≡ k → string_bytes s.path ≡ path → SiteAt (sites ++ s ∷ []) (length sites) k path
last_is sites s k path m p = record { site = s; site_at = get_last sites s; method_is = m; path_is = p }

front_is : (sites : List Site) (s : Site) (j k : ℕ) (path : List ℕ) → SiteAt sites j k path → SiteAt (sites ++ s ∷ []) j k path
front_is sites s j k path at = record { site = at.site; site_at = get_front sites (s ∷ []) j at.site at.site_at; method_is = at.method_is; path_is = at.path_is }

-- a site of the longer list was there, or is the one put last
one_of : (sites : List Site) (s : Site) (j k : ℕ) (path : List ℕ) → SiteAt (sites ++ s ∷ []) j k path → SiteAt sites j k path ⊎ ((j ≡ length sites) × (s.method ≡ k) × (string_bytes s.path ≡ path))
one_of sites s j k path at = elim (get_either sites s j at.site at.site_at) [
  | inl before ↦ inl (record { site = at.site; site_at = before; method_is = at.method_is; path_is = at.path_is })
  | inr (place, is) ↦ inr (place, ap (λ x. x.method) is ∙ at.method_is, ap (λ x. string_bytes x.path) is ∙ at.path_is)
]

some_more : (methods : List Method) (top m : ℕ) (path : List ℕ) (sites : List Site) (s : Site) → (Holds sites m path → ⊥) → s.method ≡ m → string_bytes s.path ≡ path → IsSite methods top path m → AreSome methods top sites
    → AreSome methods top (sites ++ s ∷ [])
some_more methods top m path sites s new is_m is_path is some = record {
  each = λ j k at here. elim (one_of sites s j k at here) [
    | inl before ↦ some.each j k at before
    | inr (place, same, path_same) ↦ subst (λ x. IsSite methods top x k) (sym is_path ∙ path_same) (subst (IsSite methods top path) (sym is_m ∙ same) is)
  ];
  once = λ i j k at one two. once_by i j k at (one_of sites s i k at one) (one_of sites s j k at two);
}
  where
    clash : (i k : ℕ) (at : List ℕ) → SiteAt sites i k at → s.method ≡ k → string_bytes s.path ≡ at → ⊥
    clash i k at before same path_same =
        let m_k : m ≡ k = sym is_m ∙ same in
        let p_at : path ≡ at = sym is_path ∙ path_same in
        new (i, subst (λ x. SiteAt sites i m x) (sym p_at) (subst (λ x. SiteAt sites i x at) (sym m_k) before))

    once_by : (i j k : ℕ) (at : List ℕ) → SiteAt sites i k at ⊎ ((i ≡ length sites) × (s.method ≡ k) × (string_bytes s.path ≡ at)) → SiteAt sites j k at ⊎ ((j ≡ length sites) × (s.method ≡ k) × (string_bytes s.path ≡ at)) → i ≡ j
    once_by i j k at (inl one) (inl two) = some.once i j k at one two
    once_by i j k at (inl one) (inr (place, same, path_same)) = absurd (clash i k at one same path_same)
    once_by i j k at (inr (place, same, path_same)) (inl two) = absurd (clash j k at two same path_same)
    once_by i j k at (inr (one, a, b)) (inr (two, c, d)) = one ∙ sym two

-- ---- steps

pub step_none : (path : List ℕ) (d : Field) (sites : List Site) → called_by d.encoding ≡ None → Step path (CallsOf d) sites sites
step_none path d sites none = record {
  kept = λ j k at here. here;
  holds = λ m name calls. absurd (let wrong : None ≡ Some m = sym none ∙ calls.0 in cc);
  some = λ methods top k is calls some. some;
}

pub step_one : (path inner : List ℕ) (d : Field) (m : ℕ) (old new : List Site) → called_by d.encoding ≡ Some m → inner ≡ inner_path path d.declared.name → Adds m inner old new → Step path (CallsOf d) old new
step_one path inner d m old _ calls is (was_there here) = record {
  kept = λ j k at there. there;
  holds = λ x name c. subst (λ n. Holds old x (inner_path path n)) c.1 (subst (λ y. Holds old y (inner_path path d.declared.name)) (same_Some m x (sym calls ∙ c.0)) (subst (Holds old m) is here));
  some = λ methods top k site called some. some;
}
step_one path inner d m old _ calls is (put_last s new is_m is_path) = record {
  kept = λ j k at there. front_is old s j k at there;
  holds = λ x name c. subst (λ n. Holds (old ++ s ∷ []) x (inner_path path n)) c.1 (subst (λ y. Holds (old ++ s ∷ []) y (inner_path path d.declared.name)) (same_Some m x (sym calls ∙ c.0))
      (length old, last_is old s m (inner_path path d.declared.name) is_m (is_path ∙ is)));
  some = λ methods top k site called some.
      some_more methods top m inner old s new is_m is_path (subst (λ p. IsSite methods top p m) (sym is) (of_call k m d.declared.name site (called m d.declared.name (calls, refl)))) some;
}

module _ (path : List ℕ) where
  then : (One Two All : ℕ → List ℕ → Type 0) (a b c : List Site) → ((m : ℕ) (name : List ℕ) → All m name → One m name ⊎ Two m name) → ((m : ℕ) (name : List ℕ) → One m name → All m name) → ((m : ℕ) (name : List ℕ) → Two m name → All m name)
      → Step path One a b → Step path Two b c → Step path All a c
  then One Two All a b c parts left right one two = record {
    kept = λ j k at here. two.kept j k at (one.kept j k at here);
    holds = λ m name calls. elim (parts m name calls) [
      | inl first ↦ let h = one.holds m name first in (h.0, two.kept h.0 m (inner_path path name) h.1)
      | inr second ↦ two.holds m name second
    ];
    some = λ methods top k is calls some. two.some methods top k is (λ m name h. calls m name (right m name h)) (one.some methods top k is (λ m name h. calls m name (left m name h)) some);
  }

  pub fields_start : (fields : List Field) (sites : List Site) → Step path (CallsIn (take 0 fields)) sites sites
  fields_start fields sites = record {
    kept = λ j k at here. here;
    holds = λ m name calls. absurd (let wrong : None ≡ Some calls.1 = calls.2 in cc);
    some = λ methods top k is calls some. some;
  }

  in_more : (fields : List Field) (i : ℕ) (m : ℕ) (name : List ℕ) → CallsIn (take i fields) m name → CallsIn (take (suc i) fields) m name
  in_more fields i m name c = (c.0, c.1, kept_in fields i c.0 c.1 c.2, c.3)

  pub fields_on : (fields : List Field) (i : ℕ) (d : Field) (a b c : List Site) → i < length fields → d ≡ get_or fields i d → Step path (CallsIn (take i fields)) a b → Step path (CallsOf d) b c → Step path (CallsIn (take (i + 1) fields)) a c
  fields_on fields i d a b c within is one two =
      let more : suc i ≡ i + 1 = omega arith in
      subst (λ n. Step path (CallsIn (take n fields)) a c) more (then (CallsIn (take i fields)) (CallsOf d) (CallsIn (take (suc i) fields)) a b c
      (λ m name calls. elim (get_next fields i d calls.0 calls.1 calls.2) [
        | inl before ↦ inl (calls.0, calls.1, before, calls.3)
        | inr this ↦ inr (subst (λ x. CallsOf x m name) (sym (is ∙ this)) calls.3)
      ])
      (in_more fields i)
      (λ m name calls. (i, d, element fields i within is, calls))
      one two)

  pub formats_start : (formats : List Format) (sites : List Site) → Step path (CallsInFormats (take 0 formats)) sites sites
  formats_start formats sites = record {
    kept = λ j k at here. here;
    holds = λ m name calls. absurd (let wrong : None ≡ Some calls.1 = calls.2 in cc);
    some = λ methods top k is calls some. some;
  }

  pub formats_on : (formats : List Format) (i : ℕ) (f : Format) (a b c : List Site) → i < length formats → f ≡ get_or formats i f → Step path (CallsInFormats (take i formats)) a b → Step path (CallsIn f.fields) b c
      → Step path (CallsInFormats (take (i + 1) formats)) a c
  formats_on formats i f a b c within is one two =
      let more : suc i ≡ i + 1 = omega arith in
      subst (λ n. Step path (CallsInFormats (take n formats)) a c) more (then (CallsInFormats (take i formats)) (CallsIn f.fields) (CallsInFormats (take (suc i) formats)) a b c
      (λ m name calls. elim (get_next formats i f calls.0 calls.1 calls.2) [
        | inl before ↦ inl (calls.0, calls.1, before, calls.3)
        | inr this ↦ inr (subst (λ (x : Format). CallsIn x.fields m name) (sym (is ∙ this)) calls.3)
      ])
      (λ m name calls. (calls.0, calls.1, kept_in formats i calls.0 calls.1 calls.2, calls.3))
      (λ m name calls. (i, f, element formats i within is, calls))
      one two)

-- ---- a site whose calls are followed

pub is_format : (methods : List Method) (k n : ℕ) (method : Method) (f : Format) → slice_get methods k ≡ Some method → slice_get method.formats n ≡ Some f → format_in methods k n ≡ Some f
is_format methods k n method f at here = ap (option_and_then (λ (m : Method). slice_get m.formats n)) at ∙ here

of_format : (methods : List Method) (k n : ℕ) (method : Method) (f : Format) → slice_get methods k ≡ Some method → format_in methods k n ≡ Some f → slice_get method.formats n ≡ Some f
of_format methods k n method f at is = sym (ap (option_and_then (λ (m : Method). slice_get m.formats n)) at) ∙ is

pub same_site : (sites : List Site) (j k : ℕ) (path : List ℕ) (s : Site) → slice_get sites j ≡ Some s → SiteAt sites j k path → (s.method ≡ k) × (string_bytes s.path ≡ path)
same_site sites j k path s at here =
    let same : s ≡ here.site = same_Some s here.site (sym at ∙ here.site_at) in
    (ap (λ x. x.method) same ∙ here.method_is, ap (λ x. string_bytes x.path) same ∙ here.path_is)

pub followed : (methods : List Method) (place : ℕ) (old new : List Site) (s : Site) (k : ℕ) (path : List ℕ) (method : Method) → slice_get old place ≡ Some s → k ≡ s.method → path ≡ string_bytes s.path → slice_get methods k ≡ Some method
    → Step path (CallsInFormats method.formats) old new → IsFollowed methods place old new
followed methods place old new s k path method at is_k is_path found step = record {
  kept = step.kept;
  holds = λ x m other name here call.
      let (same_k, same_path) = same_site old place x other s at here in
      let k_is : x ≡ k = sym same_k ∙ sym is_k in
      let format : format_in methods k call.number ≡ Some call.format = ap (λ y. format_in methods y call.number) (sym k_is) ∙ call.format_is in
      subst (λ p. Holds new m (inner_path p name)) (is_path ∙ same_path)
      (step.holds m name (call.number, call.format, of_format methods k call.number method call.format found format, (call.place, call.field, call.field_at, (call.called, call.name_is))));
  some = λ top some.
      let site : SiteAt old place k path = record { site = s; site_at = at; method_is = sym is_k; path_is = sym is_path } in
      step.some methods top k (some.each place k path site)
      (λ m name c. record { number = c.0; format = c.1; format_is = is_format methods k c.0 method c.1 found c.2; place = c.3.0; field = c.3.1; field_at = c.3.2; called = c.3.3.0; name_is = c.3.3.1 }) some;
}

pub followed_none : (methods : List Method) (place : ℕ) (sites : List Site) (s : Site) (k : ℕ) → slice_get sites place ≡ Some s → k ≡ s.method → slice_get methods k ≡ None → IsFollowed methods place sites sites
followed_none methods place sites s k at is none = record {
  kept = λ j x path here. here;
  holds = λ x m path name here call.
      let (same_k, same_path) = same_site sites place x path s at here in
      let gone : slice_get methods x ≡ None = ap (slice_get methods) (sym same_k ∙ sym is) ∙ none in
      absurd (let wrong : None ≡ Some call.format = sym (ap (option_and_then (λ (m : Method). slice_get m.formats call.number)) gone) ∙ call.format_is in cc);
  some = λ top some. some;
}

-- ---- all sites

-- the calls of the sites before a place are followed, and the first is the top's
pub record AreFollowed (methods : List Method) (top place : ℕ) (sites : List Site) : Type 0 where
  pub first : SiteAt sites 0 top []
  pub some : AreSome methods top sites
  pub calls : (j k m : ℕ) (path name : List ℕ) → j < place → SiteAt sites j k path → HasCall methods k m name → Holds sites m (inner_path path name)

pub followed_start : (methods : List Method) (top : ℕ) (sites : List Site) → IsFirst top sites → AreFollowed methods top 0 sites
followed_start methods top sites (s, is, m, p) = record {
  first = subst (λ ss. SiteAt ss 0 top []) (sym is) (record { site = s; site_at = refl; method_is = m; path_is = p });
  some = subst (AreSome methods top) (sym is) (record {
    each = λ j k path here. let (at, same, path_same) = only j k path here in subst (λ x. IsSite methods top x k) (sym p ∙ path_same) (subst (IsSite methods top []) (sym m ∙ same) of_top);
    once = λ i j k path one two. (only i k path one).0 ∙ sym (only j k path two).0;
  });
  calls = λ j k x path name h here call. absurd (omega (arith, h));
}
  where
    only : (j k : ℕ) (path : List ℕ) → SiteAt (s ∷ []) j k path → (j ≡ 0) × (s.method ≡ k) × (string_bytes s.path ≡ path)
    only zero k path here = let same : s ≡ here.site = same_Some s here.site here.site_at in (refl, ap (λ x. x.method) same ∙ here.method_is, ap (λ x. string_bytes x.path) same ∙ here.path_is)
    only (suc j) k path here = absurd (let none : None ≡ Some here.site = here.site_at in cc)

-- what stands below a place in the longer list stood there before
was_before : (old new : List Site) (j k : ℕ) (path : List ℕ) → j < length old → ((i x : ℕ) (at : List ℕ) → SiteAt old i x at → SiteAt new i x at) → SiteAt new j k path → SiteAt old j k path
was_before old new j k path within kept here =
    let x = slice_get_there old j within in
    let old_at : SiteAt old j x.0.method (string_bytes x.0.path) = record { site = x.0; site_at = x.1; method_is = refl; path_is = refl } in
    let new_at = kept j x.0.method (string_bytes x.0.path) old_at in
    let (same, path_same) = same_site new j k path new_at.site new_at.site_at here in
    record { site = x.0; site_at = x.1; method_is = sym new_at.method_is ∙ same; path_is = sym new_at.path_is ∙ path_same }

pub followed_on : (methods : List Method) (top place : ℕ) (old new : List Site) → place < length old → AreFollowed methods top place old → IsFollowed methods place old new → AreFollowed methods top (place + 1) new
followed_on methods top place old new within so step = record {
  first = step.kept 0 top [] so.first;
  some = step.some top so.some;
  calls = λ j k m path name h here call.
      let before = was_before old new j k path (omega (arith, h, within)) step.kept here in
      by j k m path name h before call (nat_eq j place) refl;
}
  where
    by : (j k m : ℕ) (path name : List ℕ) → j < place + 1 → SiteAt old j k path → HasCall methods k m name → (b : Bool) → nat_eq j place ≡ b → Holds new m (inner_path path name)
    by j k m path name h before call true is = step.holds k m path name (subst (λ i. SiteAt old i k path) ((Decides-eqb j place).0 is) before) call
    by j k m path name h before call false is =
        let apart : j ≡ place → ⊥ = λ e. let yes : true ≡ false = sym ((Decides-eqb j place).1 e) ∙ is in absurd (cc) in
        let found = so.calls j k m path name (omega (arith, h, apart)) before call in
        (found.0, step.kept found.0 m (inner_path path name) found.1)

pub sites_are_all : (methods : List Method) (top place : ℕ) (sites : List Site) → length sites ≤ place → AreFollowed methods top place sites → AreSites methods top sites
sites_are_all methods top place sites over so = record { some = so.some; all = λ path k is. there path k is }
  where
    there : (path : List ℕ) (k : ℕ) → IsSite methods top path k → Holds sites k path
    there _ _ of_top = (0, so.first)
    there _ _ (of_call {path} k m name is call) =
        let at = there path k is in
        so.calls at.0 k m path name (let within = slice_get_within sites at.0 at.1.site at.1.site_at in omega (arith, over, within)) at.1 call

pub sites_are_more : (methods : List Method) (top place : ℕ) (sites : List Site) → 256 < length sites → AreFollowed methods top place sites → AreMore methods top 256
sites_are_more methods top place sites many so = record { sites = sites; some = so.some; many = many }

-- ---- the search

pub found_site : (sites : List Site) (j k : ℕ) (path : List ℕ) (s : Site) → slice_get sites j ≡ Some s → is_site k path s ≡ true → SiteAt sites j k path
found_site sites j k path s at is =
    let (m, p) = both (nat_eq s.method k) (bytes_eq (string_bytes s.path) path) is in
    record { site = s; site_at = at; method_is = (Decides-eqb s.method k).0 m; path_is = (bytes_eq-Decides (string_bytes s.path) path).0 p }

-- none before a place is it
abbrev pub NoneBefore : List Site → ℕ → List ℕ → ℕ → Type 0
NoneBefore sites k path i = (j : ℕ) → j < i → SiteAt sites j k path → ⊥

pub none_next : (sites : List Site) (k : ℕ) (path : List ℕ) (i : ℕ) (s : Site) → slice_get sites i ≡ Some s → is_site k path s ≡ false → NoneBefore sites k path i → NoneBefore sites k path (i + 1)
none_next sites k path i s at isnt so j h here = by (nat_eq j i) refl
  where
    by : (b : Bool) → nat_eq j i ≡ b → ⊥
    by false is = so j (let apart : j ≡ i → ⊥ = λ e. let yes : true ≡ false = sym ((Decides-eqb j i).1 e) ∙ is in absurd (cc) in omega (arith, h, apart)) here
    by true is =
        let (m, p) = same_site sites i k path s at (subst (λ x. SiteAt sites x k path) ((Decides-eqb j i).0 is) here) in
        let yes : is_site k path s ≡ true = ap (λ b. b && bytes_eq (string_bytes s.path) path) ((Decides-eqb s.method k).1 m) ∙ (bytes_eq-Decides (string_bytes s.path) path).1 p in
        let wrong : true ≡ false = sym yes ∙ isnt in absurd (cc)

pub none_there : (sites : List Site) (k : ℕ) (path : List ℕ) (i : ℕ) → length sites ≤ i → NoneBefore sites k path i → Holds sites k path → ⊥
none_there sites k path i over so (j, here) = so j (let within = slice_get_within sites j here.site here.site_at in omega (arith, over, within)) here

-- ---- the first, and one more

pub first_is : (top : ℕ) (old new : List Site) (s : Site) → old ≡ [] → new ≡ old ++ s ∷ [] → s.method ≡ top → string_bytes s.path ≡ [] → IsFirst top new
first_is top old new s none is m p = (s, is ∙ ap (λ xs. xs ++ s ∷ []) none, m, p)

pub site_there : (sites : List Site) (m : ℕ) (path : List ℕ) (o : Option ℕ) → IfSome o (λ j. SiteAt sites j m path) → is_some o ≡ true → Adds m path sites sites
site_there sites m path None h e = absurd (let wrong : false ≡ true = e in cc)
site_there sites m path (Some j) h e = was_there (j, h)

pub site_last : (sites new : List Site) (m : ℕ) (path : List ℕ) (o : Option ℕ) (s : Site) → IfNone o (Holds sites m path → ⊥) → is_some o ≡ false → new ≡ sites ++ s ∷ [] → s.method ≡ m → string_bytes s.path ≡ path → Adds m path sites new
site_last sites new m path (Some j) s h e is is_m is_path = absurd (let wrong : true ≡ false = e in cc)
site_last sites new m path None s h e is is_m is_path = subst (Adds m path sites) (sym is) (put_last s h is_m is_path)
