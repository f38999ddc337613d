-- A context that went on by a page, and what it keeps of it.
use Rattle.std.proofs.Common.{◌≡◌, ◌∙◌, ◌++◌, ap, subst, sym, ℕ, List, []}
use Rattle.std.proofs.lemmas.Bool.{false≢true}
use Rattle.std.specs.Prelude.{IfSome, IsTrue, Option, Some, None, is_some}
use Rattle.sem_context.specs.Entries.{Entries, bits_at}
use Rattle.sem_profile.specs.Alike.{AreAlike}
use Rattle.sem_profile.specs.declared.profile.Method.{Method}
use Rattle.sem_filling.specs.declared.filling.Filling.{Filling}
use Rattle.sem_filling.specs.Entries.{entries}
use Rattle.sem_filling.specs.Fits.{Context}
use Rattle.sem_filling.specs.Fronts.{FitsTop}
use Rattle.sem_pages.specs.declared.page.Page.{Page}
use Rattle.sem_pages.specs.Pages.{Shows}
use Rattle.sem_pages.specs.Progress.{HasFirst}
use Rattle.sem_pages.specs.Steady.{IsKept}
use Rattle.sem_pages.proofs.Ordered.{same_order}
use Rattle.cert_accepted.specs.Accepted.{Accepting}
use Rattle.walk_pages.specs.Kept.{HasPaths, IsKeptBy}

-- what a page shows, by equal methods
pub shown_moved : (ms ns : List Method) (k j : ℕ) (p : Page) (f : Filling) → ms ≡ ns → k ≡ j → Shows ns j p f → Shows ms k p f
shown_moved ms ns k j p f ms_are k_is shown = subst (λ x. Shows x k p f) (sym ms_are) (subst (λ n. Shows ns n p f) (sym k_is) shown)

-- a context that begins with the paths of a filling begins with those of each other
pub all_begin : (a : Accepting) (ctx : Context) (new : Entries) (f : Filling) → AreAlike a.profile.methods → FitsTop a.profile.methods a.profile.top ctx f → HasFirst new (entries f) → HasPaths a new
all_begin a ctx new f alike fit begins calls other g fit' =
    (begins.0, begins.1 ∙ ap (λ ps. ps ++ begins.0) (same_order a.profile.methods alike calls ctx other a.profile.top [] [] [] f g fit fit'))

-- what is steady of the page that is kept, if there is one, by equal methods
pub steady_in : (a : Accepting) (ctx : Entries) (ms : List Method) (k : ℕ) (o : Option Page) → ms ≡ a.profile.methods → k ≡ a.profile.top → IfSome o (IsKeptBy a ctx) → IfSome o (λ p. IsKept ms (bits_at ctx) k [] p)
steady_in a ctx ms k None methods_are top_is kept = tt
steady_in a ctx ms k (Some p) methods_are top_is kept =
    subst (λ xs. IsKept xs (bits_at ctx) k [] p) (sym methods_are) (subst (λ n. IsKept a.profile.methods (bits_at ctx) n [] p) (sym top_is) kept.steady)

-- a page that is kept
pub paths_by : (a : Accepting) (ctx : Entries) (o : Option Page) → IfSome o (IsKeptBy a ctx) → IsTrue (is_some o) → HasPaths a ctx
paths_by a ctx None kept is = absurd (false≢true is)
paths_by a ctx (Some p) kept is = kept.paths
