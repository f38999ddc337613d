-- What is so by the rule is so by the flags, once nothing is to be added.
use Rattle.std.proofs.Common.{◌≡◌, refl, ℕ, ◌<◌, Bool, true, List, [], length, ap, ◌∙◌, arith, inl, inr}
use Rattle.std.specs.Prelude.{Some, ◌&&◌, slice_get, string_bytes}
use Rattle.std.specs.Str.{bytes_eq}
use Rattle.std.proofs.lemmas.Slice.Eq.{bytes_eq-Decides}
use Rattle.std.proofs.lemmas.Option.{slice_get_within}
use Rattle.sem_profile.specs.declared.profile.Field.{Field}
use Rattle.sem_profile.specs.declared.profile.Format.{Format}
use Rattle.sem_lint.specs.Paths.{called_by, keeps}
use Rattle.sem_lint.specs.Sites.{AreSites, HasCall, Holds, SiteAt, format_in, inner_path, of_call, of_top}
use Rattle.sem_lint.specs.Needs as needs
use Rattle.sem_lint.specs.NeedsSteps.{IsGrown, MayBe, Served, Used, is_reached, is_usable, texts}
use Rattle.sem_lint.specs.declared.growth.Flags.{Flags}
use Rattle.sem_lint.specs.declared.growth.Ground.{Ground}

and_both : (a b : Bool) → a ≡ true → b ≡ true → (a && b) ≡ true
and_both a b e f = ap (λ x. x && b) e ∙ f

module _ (g : Ground) (sites : AreSites g.methods.now g.top g.sites.now) (flags : List Flags) (grown : IsGrown g flags) where
  within : (j k : ℕ) (path : List ℕ) → SiteAt g.sites.now j k path → j < length flags
  within j k path here = let inside = slice_get_within g.sites.now j here.site here.site_at in let many = grown.begun.true_of.as_many in omega (arith, inside, many)

  pub called_site : (j k n i m : ℕ) (path : List ℕ) (f : Format) (d : Field) → SiteAt g.sites.now j k path → format_in g.methods.now k n ≡ Some f → slice_get f.fields i ≡ Some d → called_by d.encoding ≡ Some m
      → Holds g.sites.now m (inner_path path d.declared.name)
  called_site j k n i m path f d here is at calls =
      let call : HasCall g.methods.now k m d.declared.name = record { number = n; format = f; format_is = is; place = i; field = d; field_at = at; called = calls; name_is = refl } in
      sites.all (inner_path path d.declared.name) m (of_call k m d.declared.name (sites.some.each j k path here) call)

  mutual
    pub used_is : (path : List ℕ) (k : ℕ) → needs.CanBeUsed g.methods.now g.top g.dead.now (texts g.given.now) path k → (j : ℕ) → SiteAt g.sites.now j k path → is_usable flags j ≡ true
    used_is path k (needs.by_format n f is alive each) j here =
        let used : Used g flags path k n f = record { alive = alive; each = λ i d at. served_is path k d (each i d at) j here n i f is at } in
        (grown.done j k n path f here is used (within j k path here)).0

    pub reached_is : (path : List ℕ) (k : ℕ) → needs.IsReached g.methods.now g.top g.dead.now (texts g.given.now) path k → (j : ℕ) × SiteAt g.sites.now j k path × (is_reached flags j ≡ true)
    reached_is _ _ needs.at_top = let at = sites.all [] g.top of_top in (at.0, at.1, grown.begun.top at.0 at.1)
    reached_is _ _ (needs.by_call {path} k n i m f d r is alive each at calls) =
        let (j, here, on) = reached_is path k r in
        let used : Used g flags path k n f = record { alive = alive; each = λ i d at. served_is path k d (each i d at) j here n i f is at } in
        let inner = called_site j k n i m path f d here is at calls in
        (inner.0, inner.1, (grown.done j k n path f here is used (within j k path here)).1 on i d at m calls inner.0 inner.1 (within inner.0 m (inner_path path d.declared.name) inner.1))

    pub may_is : (path name : List ℕ) → needs.MayBeThere g.methods.now g.top g.dead.now (texts g.given.now) path name → MayBe g flags path name
    may_is path name (needs.is_given e) = inl e
    may_is path name (needs.is_left k r u kept) =
        let (j, here, on) = reached_is path k r in
        let usable = used_is path k u j here in
        let same : bytes_eq (string_bytes here.site.path) path ≡ true = (bytes_eq-Decides (string_bytes here.site.path) path).1 here.path_is in
        let it : keeps g.methods.now here.site.method name ≡ true = ap (λ x. keeps g.methods.now x name) here.method_is ∙ kept in
        inr (j, here.site, here.site_at, and_both (is_usable flags j) _ usable (and_both (is_reached flags j) _ on (and_both (bytes_eq (string_bytes here.site.path) path) _ same it)))

    pub served_is : (path : List ℕ) (k : ℕ) (d : Field) → needs.IsServed g.methods.now g.top g.dead.now (texts g.given.now) path d → (j : ℕ) → SiteAt g.sites.now j k path → (n i : ℕ) (f : Format) → format_in g.methods.now k n ≡ Some f
        → slice_get f.fields i ≡ Some d → Served g flags path d
    served_is path k d (needs.serves entry call) j here n i f is at = record {
      entry = λ asks. may_is path d.declared.name (entry asks);
      call = λ m calls. let inner = called_site j k n i m path f d here is at calls in (inner.0, inner.1, used_is (inner_path path d.declared.name) m (call m calls) inner.0 inner.1);
    }
