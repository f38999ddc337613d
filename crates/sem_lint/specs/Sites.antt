-- Methods at the paths at which they are called (docs/DEFINITIONS.md, What lint tells).
use Rattle.std.specs.Prelude.{◌≡◌, ℕ, ◌<◌, ◌&&◌, Bool, nat_eq, List, [], ◌++◌, length, slice_get, option_and_then, string_bytes, codes, Option, Some}
use Rattle.std.specs.Str.{bytes_eq}
use Rattle.sem_profile.specs.declared.profile.Field.{Field}
use Rattle.sem_profile.specs.declared.profile.Format.{Format}
use Rattle.sem_profile.specs.declared.profile.Method.{Method}
use Rattle.sem_lint.specs.Paths.{called_by}
use Rattle.sem_lint.specs.declared.sites.Site.{Site}

-- the path below which the fields of a called method stand, where a field of that name calls it
abbrev pub inner_path : List ℕ → List ℕ → List ℕ
inner_path path name = path ++ (name ++ codes ".")

-- the format n of the method k
abbrev pub format_in : List Method → ℕ → ℕ → Option Format
format_in methods k n = option_and_then (λ (m : Method). slice_get m.formats n) (slice_get methods k)

-- a format of the method k calls m by a field of that name
pub record HasCall (methods : List Method) (k m : ℕ) (name : List ℕ) : Type 0 where
  pub number : ℕ
  pub format : Format
  pub format_is : format_in methods k number ≡ Some format
  pub place : ℕ
  pub field : Field
  pub field_at : slice_get format.fields place ≡ Some field
  pub called : called_by field.encoding ≡ Some m
  pub name_is : field.declared.name ≡ name

-- The fields of the method k may stand below the path: the top's below none, those of a called method below the path of the field that calls it.
pub data IsSite (methods : List Method) (top : ℕ) : List ℕ → ℕ → Type 0 where
  of_top : IsSite methods top [] top
  of_call : {path : List ℕ} (k m : ℕ) (name : List ℕ) → IsSite methods top path k → HasCall methods k m name → IsSite methods top (inner_path path name) m

-- ---- lists of them

abbrev pub is_site : ℕ → List ℕ → Site → Bool
is_site k path s = nat_eq s.method k && bytes_eq (string_bytes s.path) path

-- the site j is the method k below that path
pub record SiteAt (sites : List Site) (j k : ℕ) (path : List ℕ) : Type 0 where
  pub site : Site
  pub site_at : slice_get sites j ≡ Some site
  pub method_is : site.method ≡ k
  pub path_is : string_bytes site.path ≡ path

-- one of them is the method k below that path
abbrev pub Holds : List Site → ℕ → List ℕ → Type 0
Holds sites k path = (j : ℕ) × SiteAt sites j k path

-- each is one, and none stands twice
pub record AreSome (methods : List Method) (top : ℕ) (sites : List Site) : Type 0 where
  pub each : (j k : ℕ) (path : List ℕ) → SiteAt sites j k path → IsSite methods top path k
  pub once : (i j k : ℕ) (path : List ℕ) → SiteAt sites i k path → SiteAt sites j k path → i ≡ j

-- they are all
pub record AreSites (methods : List Method) (top : ℕ) (sites : List Site) : Type 0 where
  pub some : AreSome methods top sites
  pub all : (path : List ℕ) (k : ℕ) → IsSite methods top path k → Holds sites k path

-- there are more than that
pub record AreMore (methods : List Method) (top limit : ℕ) : Type 0 where
  pub sites : List Site
  pub some : AreSome methods top sites
  pub many : limit < length sites
