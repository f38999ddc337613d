-- The last pages that the ends of a session's flows keep (docs/DEFINITIONS.md, Pages).
use Rattle.std.specs.Prelude.{◌≡◌, ◌⊎◌, ℕ, List, Option, Some, IfSome, slice_get}
use Rattle.sem_pages.specs.declared.page.Page.{Page}
use Rattle.cert_accepted.specs.Accepted.{Accepting}
use Rattle.walk_pages.specs.Kept.{IsKeptBy}
use Rattle.walk_session.specs.declared.ends.Ends.{Ends}
use Rattle.walk_session.specs.declared.ends.Sending.{Sending}
use Rattle.walk_session.specs.declared.ends.Sending.TheVariants.{Plain, Robust}

-- ---- a list of pages

-- the page, if there is one, is that at the place
abbrev pub IsFrom : List (Option Page) → ℕ → Option Page → Type 0
IsFrom ps place o = IfSome o (λ p. slice_get ps place ≡ Some (Some p))

-- each page is one of the old ones, at its place
abbrev pub AreSame : List (Option Page) → List (Option Page) → Type 0
AreSame old new = (i : ℕ) (p : Page) → slice_get new i ≡ Some (Some p) → slice_get old i ≡ Some (Some p)

-- each page is one of the old ones, at its place, and none is at this one
abbrev pub AreOthers : List (Option Page) → ℕ → List (Option Page) → Type 0
AreOthers old place new = (i : ℕ) (p : Page) → slice_get new i ≡ Some (Some p) → (slice_get old i ≡ Some (Some p)) × (i ≡ place → ⊥)

-- each page is one of the old ones, at its place, or this one at this place
abbrev pub AreWith : List (Option Page) → ℕ → Option Page → List (Option Page) → Type 0
AreWith old place own new = (i : ℕ) (p : Page) → slice_get new i ≡ Some (Some p) → (slice_get old i ≡ Some (Some p)) ⊎ ((i ≡ place) × (own ≡ Some p))

-- ---- kept by the ends

-- the context of the sending end keeps the page; one of several contexts keeps none
abbrev pub IsKeptAt : Accepting → Sending → Page → Type 0
IsKeptAt a (Plain ctx) p = IsKeptBy a ctx p
IsKeptAt a (Robust s) p = ⊥

-- a page that a flow's sending end packed, and one that its receiving end unpacked
abbrev pub KeepsSent : Accepting → Ends → Page → Type 0
KeepsSent a ends p = IsKeptAt a ends.sending p

abbrev pub KeepsReceived : Accepting → Ends → Page → Type 0
KeepsReceived a ends p = IsKeptBy a ends.receiving p

-- each page is kept so by the ends of its flow
abbrev pub AreKept : (Ends → Page → Type 0) → List Ends → List (Option Page) → Type 0
AreKept Keeps flows ps = (i : ℕ) (p : Page) (ends : Ends) → slice_get ps i ≡ Some (Some p) → slice_get flows i ≡ Some ends → Keeps ends p
