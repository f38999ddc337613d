-- What is known of sites while it grows: which can be used and which are reached.
use Rattle.std.specs.Prelude.{◌≡◌, ℕ, ◌+◌, ◌<◌, ◌≤◌, ◌&&◌, Bool, true, false, List, [], ◌∷◌, ◌++◌, length, map, slice_get, slice_set, string_bytes, Option, Some, None, ◌⊎◌, if◌then◌else◌}
use Rattle.std.specs.Borrow.{Bor}
use Rattle.std.specs.List.{list_any}
use Rattle.std.specs.Str.{bytes_eq}
use Rattle.sem_profile.specs.declared.profile.Field.{Field}
use Rattle.sem_profile.specs.declared.profile.Format.{Format}
use Rattle.sem_profile.specs.declared.profile.Method.{Method}
use Rattle.sem_lint.specs.Paths.{called_by, keeps}
use Rattle.sem_lint.specs.Sites.{SiteAt, format_in, inner_path}
use Rattle.sem_lint.specs.Needs as needs
use Rattle.sem_lint.specs.Needs.{is_dead, needs_reference}
use Rattle.sem_lint.specs.declared.growth.Flags.{Flags}
use Rattle.sem_lint.specs.declared.growth.Ground.{Ground}
use Rattle.sem_lint.specs.declared.sites.Site.{Site}

abbrev pub texts : List (Bor (List ℕ)) → List (List ℕ)
texts given = map (λ (p : Bor (List ℕ)). p.now) given

-- ---- flags

abbrev pub usable_in : Option Flags → Bool
usable_in (Some f) = f.usable
usable_in None = false

abbrev pub reached_in : Option Flags → Bool
reached_in (Some f) = f.reached
reached_in None = false

abbrev pub is_usable : List Flags → ℕ → Bool
is_usable flags j = usable_in (slice_get flags j)

abbrev pub is_reached : List Flags → ℕ → Bool
is_reached flags j = reached_in (slice_get flags j)

-- how many are not set
abbrev pub unset : Flags → ℕ
unset f = (if f.usable then 0 else 1) + (if f.reached then 0 else 1)

abbrev pub count_unset : List Flags → ℕ
count_unset [] = 0
count_unset (f ∷ flags) = unset f + count_unset flags

-- ---- what a field needs, by the flags

-- a site at this path, which is reached and can be used, leaves an entry of that name
abbrev pub leaves : List Method → List Flags → List ℕ → List ℕ → ℕ → Site → Bool
leaves methods flags path name j s = is_usable flags j && (is_reached flags j && (bytes_eq (string_bytes s.path) path && keeps methods s.method name))

abbrev pub IsLeft : Ground → List Flags → List ℕ → List ℕ → Type 0
IsLeft g flags path name = (j : ℕ) × (s : Site) × (slice_get g.sites.now j ≡ Some s) × (leaves g.methods.now flags path name j s ≡ true)

-- the entry may be there
abbrev pub MayBe : Ground → List Flags → List ℕ → List ℕ → Type 0
MayBe g flags path name = (list_any (bytes_eq (path ++ name)) (texts g.given.now) ≡ true) ⊎ IsLeft g flags path name

-- the site of a method can be used
abbrev pub Usable : Ground → List Flags → ℕ → List ℕ → Type 0
Usable g flags m path = (j : ℕ) × SiteAt g.sites.now j m path × (is_usable flags j ≡ true)

-- the field has what it needs
pub record Served (g : Ground) (flags : List Flags) (path : List ℕ) (d : Field) : Type 0 where
  pub entry : needs_reference d ≡ true → MayBe g flags path d.declared.name
  pub call : (m : ℕ) → called_by d.encoding ≡ Some m → Usable g flags m (inner_path path d.declared.name)

-- each field has
abbrev pub AllServed : Ground → List Flags → List ℕ → List Field → Type 0
AllServed g flags path fields = (i : ℕ) (d : Field) → slice_get fields i ≡ Some d → Served g flags path d

-- the format n of the method k can be used
pub record Used (g : Ground) (flags : List Flags) (path : List ℕ) (k n : ℕ) (f : Format) : Type 0 where
  pub alive : is_dead g.dead.now k n ≡ false
  pub each : AllServed g flags path f.fields

-- a field that has not
pub record Unserved (g : Ground) (flags : List Flags) (path : List ℕ) (fields : List Field) (i : ℕ) : Type 0 where
  pub field : Field
  pub field_at : slice_get fields i ≡ Some field
  pub lacks : Served g flags path field → ⊥

-- ---- setting flags

-- One flag of the place is set, or nothing is where it is set already or there is no such place. Whether it is new is told.
pub data SetsUsable (place : ℕ) : List Flags → List Flags → Bool → Type 0 where
  usable_before : {flags : List Flags} → (place < length flags → is_usable flags place ≡ true) → SetsUsable place flags flags false
  usable_now : {flags : List Flags} (f : Flags) → slice_get flags place ≡ Some f → f.usable ≡ false → SetsUsable place flags (slice_set flags place (record { usable = true; reached = f.reached })) true

pub data SetsReached (place : ℕ) : List Flags → List Flags → Bool → Type 0 where
  reached_before : {flags : List Flags} → (place < length flags → is_reached flags place ≡ true) → SetsReached place flags flags false
  reached_now : {flags : List Flags} (f : Flags) → slice_get flags place ≡ Some f → f.reached ≡ false → SetsReached place flags (slice_set flags place (record { usable = f.usable; reached = true })) true

-- ---- growth

-- what the flags say is so by the rule
pub record IsTrueOf (g : Ground) (flags : List Flags) : Type 0 where
  pub as_many : length flags ≡ length g.sites.now
  pub usable : (j k : ℕ) (path : List ℕ) → SiteAt g.sites.now j k path → is_usable flags j ≡ true → needs.CanBeUsed g.methods.now g.top g.dead.now (texts g.given.now) path k
  pub reached : (j k : ℕ) (path : List ℕ) → SiteAt g.sites.now j k path → is_reached flags j ≡ true → needs.IsReached g.methods.now g.top g.dead.now (texts g.given.now) path k

-- flags are set and never cleared; whether some were is told
pub record Moves (old new : List Flags) (changes : Bool) : Type 0 where
  pub usable_kept : (j : ℕ) → is_usable old j ≡ true → is_usable new j ≡ true
  pub reached_kept : (j : ℕ) → is_reached old j ≡ true → is_reached new j ≡ true
  pub falls : count_unset new ≤ count_unset old
  pub falls_more : changes ≡ true → count_unset new < count_unset old
  pub rests : changes ≡ false → new ≡ old

-- and where what they said is so, what they say is
pub record Grows (g : Ground) (old new : List Flags) (changes : Bool) : Type 0 where
  pub moves : Moves old new changes
  pub true_of : IsTrueOf g old → IsTrueOf g new

-- the sites of the calls of these fields are reached
abbrev pub CallReached : Ground → List Flags → List ℕ → Field → Type 0
CallReached g flags path d = (m : ℕ) → called_by d.encoding ≡ Some m → (j : ℕ) → SiteAt g.sites.now j m (inner_path path d.declared.name) → j < length flags → is_reached flags j ≡ true

abbrev pub CallsReached : Ground → List Flags → List ℕ → List Field → Type 0
CallsReached g flags path fields = (i : ℕ) (d : Field) → slice_get fields i ≡ Some d → CallReached g flags path d

-- The sites of the calls of these fields become reached, below a path of which that is so by the rule.
pub record AddsCalls (g : Ground) (path : List ℕ) (fields : List Field) (old new : List Flags) (changes : Bool) : Type 0 where
  pub moves : Moves old new changes
  pub true_of : ((i m : ℕ) (d : Field) → slice_get fields i ≡ Some d → called_by d.encoding ≡ Some m → needs.IsReached g.methods.now g.top g.dead.now (texts g.given.now) (inner_path path d.declared.name) m)
      → IsTrueOf g old → IsTrueOf g new
  pub calls : changes ≡ false → CallsReached g new path fields

-- the same of one field
pub record AddsCall (g : Ground) (path : List ℕ) (d : Field) (old new : List Flags) (changes : Bool) : Type 0 where
  pub moves : Moves old new changes
  pub true_of : ((m : ℕ) → called_by d.encoding ≡ Some m → needs.IsReached g.methods.now g.top g.dead.now (texts g.given.now) (inner_path path d.declared.name) m) → IsTrueOf g old → IsTrueOf g new
  pub call : changes ≡ false → CallReached g new path d

-- a format adds nothing more at the site j: where it can be used, the site can; and where that is reached, so are those that it calls
abbrev pub IsDone : Ground → List Flags → ℕ → ℕ → List ℕ → ℕ → Format → Type 0
IsDone g flags j k path n f = Used g flags path k n f → j < length flags → (is_usable flags j ≡ true) × (is_reached flags j ≡ true → CallsReached g flags path f.fields)

-- none of these formats does
abbrev pub FormatsDone : Ground → List Flags → ℕ → Site → List Format → Type 0
FormatsDone g flags j s formats = (n : ℕ) (f : Format) → slice_get formats n ≡ Some f → IsDone g flags j s.method (string_bytes s.path) n f

abbrev pub AreFormatsOf : Ground → ℕ → List Format → Type 0
AreFormatsOf g k formats = (n : ℕ) → format_in g.methods.now k n ≡ slice_get formats n

-- no format of the site j does
abbrev pub AreDone : Ground → List Flags → ℕ → Type 0
AreDone g flags j = (k n : ℕ) (path : List ℕ) (f : Format) → SiteAt g.sites.now j k path → format_in g.methods.now k n ≡ Some f → IsDone g flags j k path n f

-- at the start: what is known is true, and the top is reached
pub record IsBegun (g : Ground) (flags : List Flags) : Type 0 where
  pub true_of : IsTrueOf g flags
  pub top : (j : ℕ) → SiteAt g.sites.now j g.top [] → is_reached flags j ≡ true

-- at the end nothing is to be added
pub record IsGrown (g : Ground) (flags : List Flags) : Type 0 where
  pub begun : IsBegun g flags
  pub done : (j : ℕ) → AreDone g flags j
