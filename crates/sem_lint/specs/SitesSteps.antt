-- How a list of sites grows, call by call.
use Rattle.std.specs.Prelude.{◌≡◌, ℕ, List, [], ◌∷◌, ◌++◌, slice_get, string_bytes, Some}
use Rattle.sem_profile.specs.declared.profile.Field.{Field}
use Rattle.sem_profile.specs.declared.profile.Format.{Format}
use Rattle.sem_profile.specs.declared.profile.Method.{Method}
use Rattle.sem_lint.specs.Paths.{called_by}
use Rattle.sem_lint.specs.Sites.{AreSome, HasCall, Holds, IsSite, SiteAt, inner_path}
use Rattle.sem_lint.specs.declared.sites.Site.{Site}

-- the top's alone
abbrev pub IsFirst : ℕ → List Site → Type 0
IsFirst top sites = (s : Site) × (sites ≡ s ∷ []) × (s.method ≡ top) × (string_bytes s.path ≡ [])

-- the site is there, or it is put last
pub data Adds (m : ℕ) (path : List ℕ) : List Site → List Site → Type 0 where
  was_there : {sites : List Site} → Holds sites m path → Adds m path sites sites
  put_last : {sites : List Site} (s : Site) → (Holds sites m path → ⊥) → s.method ≡ m → string_bytes s.path ≡ path → Adds m path sites (sites ++ s ∷ [])

-- calls of a method by a field of a name
abbrev pub CallsOf : Field → ℕ → List ℕ → Type 0
CallsOf d m name = (called_by d.encoding ≡ Some m) × (d.declared.name ≡ name)

abbrev pub CallsIn : List Field → ℕ → List ℕ → Type 0
CallsIn fields m name = (i : ℕ) × (d : Field) × (slice_get fields i ≡ Some d) × CallsOf d m name

abbrev pub CallsInFormats : List Format → ℕ → List ℕ → Type 0
CallsInFormats formats m name = (n : ℕ) × (f : Format) × (slice_get formats n ≡ Some f) × CallsIn f.fields m name

-- Sites stay where they are; those of these calls, made below the path, are there; and where the calls are of the path's method, all stay sites, each once.
pub record Step (path : List ℕ) (Calls : ℕ → List ℕ → Type 0) (old new : List Site) : Type 0 where
  pub kept : (j k : ℕ) (at : List ℕ) → SiteAt old j k at → SiteAt new j k at
  pub holds : (m : ℕ) (name : List ℕ) → Calls m name → Holds new m (inner_path path name)
  pub some : (methods : List Method) (top k : ℕ) → IsSite methods top path k → ((m : ℕ) (name : List ℕ) → Calls m name → HasCall methods k m name) → AreSome methods top old → AreSome methods top new

-- so it is of all calls of the site at a place
pub record IsFollowed (methods : List Method) (place : ℕ) (old new : List Site) : Type 0 where
  pub kept : (j k : ℕ) (at : List ℕ) → SiteAt old j k at → SiteAt new j k at
  pub holds : (k m : ℕ) (path name : List ℕ) → SiteAt old place k path → HasCall methods k m name → Holds new m (inner_path path name)
  pub some : (top : ℕ) → AreSome methods top old → AreSome methods top new
