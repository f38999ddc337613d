-- The last pages of a line's flows (docs/DEFINITIONS.md, Pages).
use Rattle.std.specs.Prelude.{◌≡◌, ◌⊎◌, ℕ, List, Option, Some, IfSome, slice_get}
use Rattle.sem_context.specs.Entries.{Entries}
use Rattle.sem_pages.specs.declared.page.Page.{Page}
use Rattle.cert_accepted.specs.Accepted.{Accepting}
use Rattle.walk_line.specs.Lines.{Contexts}
use Rattle.walk_pages.specs.Kept.{IsKeptBy}

-- the page, if there is one, is that at the place
abbrev pub IsFrom : List (Option Page) → ℕ → Option Page → Type 0
IsFrom ps place o = IfSome o (λ p. slice_get ps place ≡ Some (Some p))

-- each page is one of the old ones, at its place, and none is at this one
abbrev pub AreOthers : List (Option Page) → ℕ → List (Option Page) → Type 0
AreOthers old place new = (i : ℕ) (p : Page) → slice_get new i ≡ Some (Some p) → (slice_get old i ≡ Some (Some p)) × (i ≡ place → ⊥)

-- each page is one of the old ones, at its place, or this one at this place
abbrev pub AreWith : List (Option Page) → ℕ → Option Page → List (Option Page) → Type 0
AreWith old place own new = (i : ℕ) (p : Page) → slice_get new i ≡ Some (Some p) → (slice_get old i ≡ Some (Some p)) ⊎ ((i ≡ place) × (own ≡ Some p))

-- each page is kept by the context of its flow
abbrev pub AreKeptBy : Accepting → Contexts → List (Option Page) → Type 0
AreKeptBy a s ps = (i : ℕ) (p : Page) (ctx : Entries) → slice_get ps i ≡ Some (Some p) → slice_get s i ≡ Some ctx → IsKeptBy a ctx p

-- each page is one of the old ones, at its place
abbrev pub AreSame : List (Option Page) → List (Option Page) → Type 0
AreSame old new = (i : ℕ) (p : Page) → slice_get new i ≡ Some (Some p) → slice_get old i ≡ Some (Some p)
