-- A level that begins with what is steady of the page before it.
use Rattle.std.proofs.Common.{◌≡◌, ◌∙◌, refl, sym, ap, subst, ℕ, zero, suc, ◌+◌, ◌<◌, ◌≤◌, length, List, [], ◌∷◌, arith}
use Rattle.std.proofs.lemmas.Option.{slice_get_within}
use Rattle.std.specs.Prelude.{slice_get, slice_set, Option, Some, None, IfSome, ℤ}
use Rattle.sem_context.specs.Entries.{bits_at}
use Rattle.sem_profile.specs.declared.profile.Field.{Field}
use Rattle.sem_profile.specs.declared.profile.Format.{Format}
use Rattle.sem_profile.specs.declared.profile.Method.{Method}
use Rattle.sem_filling.specs.Entries.{Path}
use Rattle.sem_filling.specs.declared.filling.Filling.{Filling}
use Rattle.sem_filling.specs.Fits.{Context, Fits, format_at}
use Rattle.sem_pages.specs.declared.frame.PageFrame.{PageFrame}
use Rattle.sem_pages.specs.declared.page.Page.{Page, out-Page}
use Rattle.sem_pages.specs.declared.page.Shown.{Shown}
use Rattle.sem_pages.specs.Pages.{AreRead, FitsOn, Shows, seen_in}
use Rattle.sem_pages.specs.Steady.{AreKept, IsKept, IsSteady}
use Rattle.walk_pages.specs.Drafts.{blank}
use Rattle.walk_pages.specs.Kept.{AreLeft, IsKeptIn, IsLeft, blanked, steady}
use Rattle.walk_pages.proofs.Drafting.{not_whole}

set_here : {A : Type 0} (xs : List A) (i : ℕ) (y : A) → i < length xs → slice_get (slice_set xs i y) i ≡ Some y
set_here [] i y lt = absurd (omega (arith, lt))
set_here (x ∷ xs) zero y lt = refl
set_here (x ∷ xs) (suc i) y lt = set_here xs i y (omega (arith, lt))

set_other : {A : Type 0} (xs : List A) (i k : ℕ) (y : A) → (k ≡ i → ⊥) → slice_get (slice_set xs i y) k ≡ slice_get xs k
set_other [] i k y other = refl
set_other (x ∷ xs) zero zero y other = absurd (other refl)
set_other (x ∷ xs) zero (suc k) y other = refl
set_other (x ∷ xs) (suc i) zero y other = refl
set_other (x ∷ xs) (suc i) (suc k) y other = set_other xs i k y (λ e. other (ap suc e))

set_length : {A : Type 0} (xs : List A) (i : ℕ) (y : A) → length (slice_set xs i y) ≡ length xs
set_length [] i y = refl
set_length (x ∷ xs) zero y = refl
set_length (x ∷ xs) (suc i) y = ap suc (set_length xs i y)

-- so far: those before a place are left or blank, and those from it on are as they were
pub record AreLeftTo (methods : List Method) (ds : List Field) (old new : List Shown) (n : ℕ) : Type 0 where
  pub count : length new ≡ length old
  pub done : (i : ℕ) (s : Shown) → i < n → slice_get new i ≡ Some s → IsLeft methods ds old i s
  pub rest : (i : ℕ) → n ≤ i → slice_get new i ≡ slice_get old i

module _ (methods : List Method) (ds : List Field) (old : List Shown) where
  pub none_left : AreLeftTo methods ds old old 0
  none_left = record { count = refl; done = λ i s lt at. absurd (omega (arith, lt)); rest = λ i le. refl }

  before_or : (n i : ℕ) → i < n + 1 → (P : ℕ → Type 0) → (i < n → P i) → P n → P i
  before_or zero zero lt P less here = here
  before_or zero (suc i) lt P less here = absurd (omega (arith, lt))
  before_or (suc n) zero lt P less here = less (omega arith)
  before_or (suc n) (suc i) lt P less here = before_or n i (omega (arith, lt)) (λ k. P (suc k)) (λ l. less (omega (arith, l))) here

  -- one that is steady
  pub one_left : (new : List Shown) (n : ℕ) → ((d : Field) (s : Shown) → slice_get ds n ≡ Some d → slice_get new n ≡ Some s → IsSteady methods d s) → AreLeftTo methods ds old new n → AreLeftTo methods ds old new (n + 1)
  one_left new n is so_far = record {
    count = so_far.count;
    done = λ i s lt at. before_or n i lt (λ k. slice_get new k ≡ Some s → IsLeft methods ds old k s) (λ l. so_far.done i s l)
        (λ here. steady (sym (so_far.rest n (omega arith)) ∙ here) (λ d there. is d s there here)) at;
    rest = λ i le. so_far.rest i (omega (arith, le));
  }

  -- one that is made blank
  pub one_blank : (new after : List Shown) (n : ℕ) → n < length new → after ≡ slice_set new n blank → AreLeftTo methods ds old new n → AreLeftTo methods ds old after (n + 1)
  one_blank new after n within is so_far = subst (λ z. AreLeftTo methods ds old z (n + 1)) (sym is) record {
    count = set_length new n blank ∙ so_far.count;
    done = λ i s lt at. before_or n i lt (λ k. slice_get (slice_set new n blank) k ≡ Some s → IsLeft methods ds old k s)
        (λ l here. so_far.done i s l (sym (set_other new n i blank (λ e. absurd (omega (arith, e, l)))) ∙ here))
        (λ here. let one : Some blank ≡ Some s = sym (set_here new n blank within) ∙ here in let same : blank ≡ s = cc in blanked (sym same)) at;
    rest = λ i le. set_other new n i blank (λ e. absurd (omega (arith, e, le))) ∙ so_far.rest i (omega (arith, le));
  }

  pub all_left : (new : List Shown) (n : ℕ) → length new ≤ n → AreLeftTo methods ds old new n → AreLeft methods ds old new
  all_left new n le so_far = record {
    count = so_far.count;
    each = λ i s at. let under = slice_get_within new i s at in so_far.done i s (omega (arith, under, le)) at;
  }

-- what is left is read
pub left_read : (methods : List Method) (ctx : Context) (path : Path) (format : Format) (args : List ℤ) (old new : List Shown) (js : List ℕ) → length old ≡ length format.fields → AreKept methods ctx path format old → AreLeft methods format.fields old new → js ≡ []
    → AreRead methods ctx path format (seen_in new args) js
left_read methods ctx path format args old new js count kept left js_are = record {
  count = left.count ∙ count;
  fields = λ i d s u c here there whole. by i d s here (left.each i s there) (λ e. not_whole s u c (sym e) whole);
  constraints = λ k j c here there. let wrong : None ≡ Some j = ap (λ z. slice_get z k) (sym js_are) ∙ here in absurd cc;
}
  where
    by : (i : ℕ) (d : Field) (s : Shown) → slice_get format.fields i ≡ Some d → IsLeft methods format.fields old i s → (s ≡ blank → ⊥) → FitsOn methods ctx path (seen_in new args) d s
    by i d s here (blanked e) other = absurd (other e)
    by i d s here (steady at is) other = λ l bears. kept i d s here at (is d here) l

-- the fields of a page of the format
pub fields_kept : (page : Page) (index : ℕ) (format : Format) (ss : List Shown) → (out-Page page).format ≡ index → (out-Page page).fields ≡ ss → (frame : PageFrame) → IsKeptIn frame page → format_at frame.methods.now frame.method index ≡ Some format
    → AreKept frame.methods.now (bits_at frame.context.now) frame.path.now format ss
fields_kept page index format ss index_is fields_are frame kept at =
    subst (AreKept frame.methods.now (bits_at frame.context.now) frame.path.now format) fields_are (kept format (ap (format_at frame.methods.now frame.method) index_is ∙ at))

-- what is kept of a page that went into a context, by equal methods
pub kept_moved : (ms ns : List Method) (k j : ℕ) (ctx new : Context) (f : Filling) (p : Page) → ms ≡ ns → k ≡ j → ((args : List ℤ) → Fits ms ctx k args [] f → Shows ms k p f → IsKept ms new k [] p) → Fits ns ctx j [] [] f → Shows ns j p f → IsKept ns new j [] p
kept_moved ms ns k j ctx new f p ms_are k_is goes =
    subst (λ x. Fits x ctx j [] [] f → Shows x j p f → IsKept x new j [] p) ms_are (subst (λ n. Fits ms ctx n [] [] f → Shows ms n p f → IsKept ms new n [] p) k_is (goes []))
