-- What is kept of a page for the next one of its format (docs/DEFINITIONS.md, Pages).
use Rattle.std.specs.Prelude.{◌≡◌, ℕ, List, [], length, Some, slice_get}
use Rattle.sem_context.specs.Entries.{Entries, bits_at}
use Rattle.sem_elsewhere.specs.Paths.{CallAlike}
use Rattle.sem_filling.specs.declared.filling.Filling.{Filling}
use Rattle.sem_filling.specs.Entries.{entries}
use Rattle.sem_filling.specs.Fits.{Context}
use Rattle.sem_filling.specs.Fronts.{FitsTop}
use Rattle.sem_profile.specs.declared.profile.Field.{Field}
use Rattle.sem_profile.specs.declared.profile.Method.{Method}
use Rattle.sem_pages.specs.declared.frame.PageFrame.{PageFrame}
use Rattle.sem_pages.specs.declared.page.Page.{Page}
use Rattle.sem_pages.specs.declared.page.Shown.{Shown}
use Rattle.sem_pages.specs.Progress.{HasFirst}
use Rattle.sem_pages.specs.Steady.{IsKept, IsSteady}
use Rattle.cert_accepted.specs.Accepted.{Accepting}
use Rattle.walk_pages.specs.Drafts.{blank}

-- where the methods call alike, the context begins with the paths of the entries of each filling that fits the top, whatever context that fits in
abbrev pub HasPaths : Accepting → Entries → Type 0
HasPaths a ctx = CallAlike a.profile.methods → (other : Context) (f : Filling) → FitsTop a.profile.methods a.profile.top other f → HasFirst ctx (entries f)

-- Each steady field of a page of the top fits its encoding in the context, with what stands there; and the paths of such a page come first.
pub record IsKeptBy (a : Accepting) (ctx : Entries) (p : Page) : Type 0 where
  pub steady : IsKept a.profile.methods (bits_at ctx) a.profile.top [] p
  pub paths : HasPaths a ctx

-- each steady field of a page in the place of this one does so
abbrev pub IsKeptIn : PageFrame → Page → Type 0
IsKeptIn frame p = IsKept frame.methods.now (bits_at frame.context.now) frame.method frame.path.now p

-- the field of this index is blank, or stood there and is steady
pub data IsLeft (methods : List Method) (ds : List Field) (old : List Shown) (i : ℕ) (s : Shown) : Type 0 where
  blanked : s ≡ blank → IsLeft methods ds old i s
  steady : slice_get old i ≡ Some s → ((d : Field) → slice_get ds i ≡ Some d → IsSteady methods d s) → IsLeft methods ds old i s

-- of a page's fields those are left that are steady, and the others are blank
pub record AreLeft (methods : List Method) (ds : List Field) (old new : List Shown) : Type 0 where
  pub count : length new ≡ length old
  pub each : (i : ℕ) (s : Shown) → slice_get new i ≡ Some s → IsLeft methods ds old i s
