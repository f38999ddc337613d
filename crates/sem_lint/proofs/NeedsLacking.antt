-- What formats lack that are never used, by what is known of sites.
use Rattle.std.proofs.Common.{◌≡◌, ℕ, ◌+◌, ◌<◌, ◌≤◌, false, List, [], ◌∷◌, ◌++◌, length, ap, sym, ◌∙◌, subst, append_assoc, String, Global}
use Rattle.std.specs.Prelude.{Some, IfOk, option_and_then, slice_get, string_bytes}
use Rattle.std.proofs.lemmas.List.{append-nil}
use Rattle.std.specs.Prelude.{Result, Ok, Err}
use Rattle.std.specs.declared.alloc.AllocError.{AllocError}
use Rattle.sem_profile.specs.declared.profile.Field.{Field}
use Rattle.sem_profile.specs.declared.profile.Format.{Format}
use Rattle.sem_profile.specs.declared.profile.Method.{Method}
use Rattle.sem_lint.specs.Paths.{called_by}
use Rattle.sem_lint.specs.Sites.{AreSites, Holds, SiteAt, format_in, inner_path}
use Rattle.sem_lint.specs.Needs as needs
use Rattle.sem_lint.specs.NeedsSteps.{AllServed, IsGrown, Served, Used, texts}
use Rattle.sem_lint.specs.NeedsTold.{FieldLacks, IsNoted, IsReachedAt, IsServedSomewhere, LacksAt, LacksBelow, NeedingFrom, NeverUsed, SoFar, not_noted, noted}
use Rattle.sem_lint.specs.declared.growth.Flags.{Flags}
use Rattle.sem_lint.specs.declared.growth.Ground.{Ground}
use Rattle.sem_lint.specs.declared.needs.Needing.{Needing}
use Rattle.sem_lint.specs.declared.sites.Site.{Site}
use Rattle.sem_lint.proofs.NeedsAdding.{used_can}
use Rattle.sem_lint.proofs.NeedsComplete.{called_site, reached_is, served_is}
use Rattle.sem_lint.proofs.NeedsGrowing.{call_alone}
use Rattle.sem_lint.proofs.SitesGrowing.{same_site}

same_Some : {A : Type 0} (x y : A) → Some x ≡ Some y → x ≡ y
same_Some x y e = cc

-- ---- what lacks something

-- the field d at this place, as the code reads it
abbrev pub IsFieldAt : Ground → ℕ → ℕ → ℕ → Field → Type 0
IsFieldAt g k n i d = option_and_then (λ (f : Format). slice_get f.fields i) (format_in g.methods.now k n) ≡ Some d

in_format : (g : Ground) (k n i : ℕ) (d : Field) (f : Format) → IsFieldAt g k n i d → format_in g.methods.now k n ≡ Some f → slice_get f.fields i ≡ Some d
in_format g k n i d f e at = sym (ap (option_and_then (λ (x : Format). slice_get x.fields i)) at) ∙ e

field_lacks : (g : Ground) (flags : List Flags) (path : List ℕ) (k n i : ℕ) (d : Field) (f : Format) → FieldLacks g flags path k n i → IsFieldAt g k n i d → format_in g.methods.now k n ≡ Some f → Served g flags path d → ⊥
field_lacks g flags path k n i d f l e at served =
    let same_format : l.format ≡ f = same_Some l.format f (sym l.format_is ∙ at) in
    let same : l.unserved.field ≡ d = same_Some l.unserved.field d (sym l.unserved.field_at ∙ ap (λ (x : Format). slice_get x.fields i) same_format ∙ in_format g k n i d f e at) in
    l.unserved.lacks (subst (Served g flags path) (sym same) served)

module _ (g : Ground) (sites : AreSites g.methods.now g.top g.sites.now) (flags : List Flags) (grown : IsGrown g flags) where
  rule_lacks : (path : List ℕ) (k n i : ℕ) (d : Field) (f : Format) → Holds g.sites.now k path → FieldLacks g flags path k n i → IsFieldAt g k n i d → format_in g.methods.now k n ≡ Some f
      → needs.IsServed g.methods.now g.top g.dead.now (texts g.given.now) path d → ⊥
  rule_lacks path k n i d f here l e at served =
      field_lacks g flags path k n i d f l e at (served_is g sites flags grown path k d served here.0 here.1 n i f at (in_format g k n i d f e at))

  pub own_lacks : (path : List ℕ) (k n i : ℕ) (d : Field) (text : List ℕ) → Holds g.sites.now k path → FieldLacks g flags path k n i → IsFieldAt g k n i d → text ≡ path ++ d.declared.name → LacksBelow g path k n text
  own_lacks path k n i d text here l e is f at =
      subst (needs.Lacks g.methods.now g.top g.dead.now (texts g.given.now) path f) (sym is)
      (needs.lacks_own {path = path} {f = f} i d (in_format g k n i d f e at) (rule_lacks path k n i d f here l e at))

  pub inner_holds : (path : List ℕ) (k n i m : ℕ) (d : Field) (inner : List ℕ) → Holds g.sites.now k path → FieldLacks g flags path k n i → IsFieldAt g k n i d → called_by d.encoding ≡ Some m → inner ≡ inner_path path d.declared.name
      → Holds g.sites.now m inner
  inner_holds path k n i m d inner here l e calls is =
      subst (Holds g.sites.now m) (sym is) (called_site g sites flags grown here.0 k n i m path l.format d here.1 l.format_is (in_format g k n i d l.format e l.format_is) calls)

  pub inside_lacks : (path : List ℕ) (k n i m x y : ℕ) (d : Field) (inner told : List ℕ) → Holds g.sites.now k path → FieldLacks g flags path k n i → IsFieldAt g k n i d → called_by d.encoding ≡ Some m → inner ≡ inner_path path d.declared.name
      → FieldLacks g flags inner m x y → LacksBelow g inner m x told → LacksBelow g path k n told
  inside_lacks path k n i m x y d inner told here l e calls is l2 below f at =
      needs.lacks_inside {path = path} {f = f} {told = told} i m x d l2.format (in_format g k n i d f e at) calls
      (λ can. rule_lacks path k n i d f here l e at (needs.serves {path = path} {d = d} (λ asks. absurd (call_alone d m calls asks)) (λ z there.
      subst (needs.CanBeUsed g.methods.now g.top g.dead.now (texts g.given.now) (inner_path path d.declared.name)) (same_Some m z (sym calls ∙ there)) can)))
      l2.format_is
      (subst (λ p. needs.Lacks g.methods.now g.top g.dead.now (texts g.given.now) p l2.format told) is (below l2.format l2.format_is))

  -- ---- a format that is never used

  pub not_reached : (k n : ℕ) → ((j : ℕ) → IsReachedAt g flags k j → ⊥) → (told : List ℕ) → NeverUsed g k n told → ⊥
  not_reached k n none told never = let (j, here, on) = reached_is g sites flags grown never.path k never.reached in none j (never.path, here, on)

  pub is_served : (k n : ℕ) (f : Format) → format_in g.methods.now k n ≡ Some f → needs.is_dead g.dead.now k n ≡ false → IsServedSomewhere g flags k f → (told : List ℕ) → NeverUsed g k n told → ⊥
  is_served k n f at alive (j, (path, here, on, all)) told never =
      let same : f ≡ never.format = same_Some f never.format (sym at ∙ never.format_is) in
      let used : Used g flags path k n f = record { alive = alive; each = all } in
      never.nowhere path (grown.begun.true_of.reached j k path here on)
      (subst (needs.Serves g.methods.now g.top g.dead.now (texts g.given.now) path) same (used_can g flags path k n f grown.begun.true_of at used))

  never_served : (k n : ℕ) (f : Format) → format_in g.methods.now k n ≡ Some f → (IsServedSomewhere g flags k f → ⊥) → (other : List ℕ) → needs.IsReached g.methods.now g.top g.dead.now (texts g.given.now) other k
      → needs.Serves g.methods.now g.top g.dead.now (texts g.given.now) other f → ⊥
  never_served k n f at none other reached serves =
      let (j, here, on) = reached_is g sites flags grown other k reached in
      none (j, (other, here, on, λ i d there. served_is g sites flags grown other k d (serves i d there) j here n i f at there))

  pub is_never_used : (k n j : ℕ) (f : Format) (told : List ℕ) → format_in g.methods.now k n ≡ Some f → needs.is_dead g.dead.now k n ≡ false → IsReachedAt g flags k j → (IsServedSomewhere g flags k f → ⊥) → LacksAt g k n j told
      → NeverUsed g k n told
  is_never_used k n j f told at alive reached none (path, x, here, is, lacks) = record {
    format = f;
    format_is = at;
    alive = alive;
    path = path;
    reached = grown.begun.true_of.reached j k path here reached.2;
    lacks = subst (λ y. needs.Lacks g.methods.now g.top g.dead.now (texts g.given.now) path y told) (same_Some x f (sym is ∙ at)) lacks;
    nowhere = never_served k n f at none;
  }

-- ---- what it lacks at one site

pub lacking_site : (g : Ground) (flags : List Flags) (k j : ℕ) (s : Site) (path : List ℕ) → slice_get g.sites.now j ≡ Some s → path ≡ string_bytes s.path → IsReachedAt g flags k j → SiteAt g.sites.now j k path
lacking_site g flags k j s path at e there = let (m, p) = same_site g.sites.now j k there.0 s at there.1 in record { site = s; site_at = at; method_is = m; path_is = sym e }

pub some_unserved : (g : Ground) (flags : List Flags) (k j : ℕ) (f : Format) (path : List ℕ) → SiteAt g.sites.now j k path → IsReachedAt g flags k j → AllServed g flags path f.fields → (IsServedSomewhere g flags k f → ⊥) → ⊥
some_unserved g flags k j f path here there all none = none (j, (path, here, there.2, all))

pub lacks_there : (g : Ground) (k n j : ℕ) (f : Format) (path : List ℕ) (r : Result (String Global) AllocError) → SiteAt g.sites.now j k path → format_in g.methods.now k n ≡ Some f → IfOk r (λ text. LacksBelow g path k n (string_bytes text))
    → IfOk r (λ text. LacksAt g k n j (string_bytes text))
lacks_there g k n j f path (Err e) here at below = tt
lacks_there g k n j f path (Ok text) here at below = (path, f, here, at, below f at)

-- ---- the list

pub pushed_needing : (g : Ground) (k n : ℕ) (old new : List Needing) (needing : Needing) → new ≡ old ++ needing ∷ [] → needing.method ≡ k → needing.format ≡ n → NeverUsed g k n (string_bytes needing.path) → IsNoted g k n old new
pushed_needing g k n old new needing is m f never = subst (IsNoted g k n old) (sym is) (noted {found = old} needing m f never)

module _ (g : Ground) (k : ℕ) (m : Method) (at : slice_get g.methods.now k ≡ Some m) where
  -- one more format
  pub next_format : (n : ℕ) (old new : List Needing) → n < length m.formats → IsNoted g k n old new → SoFar g k n old → SoFar g k (n + 1) new
  next_format n old new lt (noted needing is_m is_n never) so = λ more are.
      subst (NeedingFrom g 0 0) (sym (append_assoc old (needing ∷ []) more)) (so (needing ∷ more) (needs.tells {k = k} {n = n} {found = more} m needing at lt is_m is_n never are))
  next_format n old new lt (not_noted none) so = λ more are. so more (needs.passes {k = k} {n = n} {found = more} m at lt none are)

  -- no more in this method
  pub next_method : (n : ℕ) (found : List Needing) → length m.formats ≤ n → SoFar g k n found → SoFar g (k + 1) 0 found
  next_method n found le so = λ more are. so more (needs.next_method {k = k} {n = n} {found = more} m at le are)

pub all_listed : (g : Ground) (k : ℕ) (found : List Needing) → length g.methods.now ≤ k → SoFar g k 0 found → NeedingFrom g 0 0 found
all_listed g k found le so = subst (NeedingFrom g 0 0) (append-nil found) (so [] (needs.no_method {k = k} {n = 0} le))
