-- Entries that may be in the context, found by their paths.
use Rattle.std.specs.Prelude.{◌≡◌, ℕ, Bool, true, List, ◌++◌, slice_get, String, Some, IsSome}
use Rattle.std.specs.BTreeMap.{BTreeMap, get_by_text}
use Rattle.std.specs.BTreeSet.{contains_text}
use Rattle.std.specs.List.{list_any}
use Rattle.std.specs.Str.{bytes_eq}
use Rattle.sem_profile.specs.declared.profile.Field.{Field}
use Rattle.sem_lint.specs.Paths.{keeps_by}
use Rattle.sem_lint.specs.NeedsSteps.{IsLeft, leaves, texts}
use Rattle.sem_lint.specs.declared.entries.EntrySource.{EntrySource}
use Rattle.sem_lint.specs.declared.growth.Ground.{Ground}
use Rattle.sem_lint.specs.declared.growth.Growth.{Growth}
use Rattle.sem_lint.specs.declared.sites.Site.{Site}

-- the entry is listed
abbrev pub Has : {Y : Type 0} → BTreeMap (String Y) EntrySource → List ℕ → Type 0
Has left entry = IsSome (get_by_text left entry)

-- what was listed is
abbrev pub Stay : {Y : Type 0} → BTreeMap (String Y) EntrySource → BTreeMap (String Y) EntrySource → Type 0
Stay old new = (entry : List ℕ) → Has old entry → Has new entry

-- the entries that the field keeps below a path are listed
pub record ListsField {Y : Type 0} (path : List ℕ) (d : Field) (old new : BTreeMap (String Y) EntrySource) : Type 0 where
  pub stay : Stay old new
  pub own : (name : List ℕ) → keeps_by name d ≡ true → Has new (path ++ name)

-- the same of each of these, which are fields or formats
pub record ListsEach {A Y : Type 0} (path : List ℕ) (keep : List ℕ → A → Bool) (xs : List A) (old new : BTreeMap (String Y) EntrySource) : Type 0 where
  pub stay : Stay old new
  pub each : (i : ℕ) (x : A) → slice_get xs i ≡ Some x → (name : List ℕ) → keep name x ≡ true → Has new (path ++ name)

-- the given paths are those at the start, and what a site leaves is listed
pub record IsListed (g : Ground) (known : Growth) : Type 0 where
  pub given : (path : List ℕ) → contains_text known.given path ≡ list_any (bytes_eq path) (texts g.given.now)
  pub left : (path name : List ℕ) → IsLeft g known.flags path name → Has known.left (path ++ name)

-- the same of all sites but one
pub record IsListedBut (g : Ground) (place : ℕ) (known : Growth) : Type 0 where
  pub given : (path : List ℕ) → contains_text known.given path ≡ list_any (bytes_eq path) (texts g.given.now)
  pub left : (path name : List ℕ) (j : ℕ) (s : Site) → (j ≡ place → ⊥) → slice_get g.sites.now j ≡ Some s → leaves g.methods.now known.flags path name j s ≡ true → Has known.left (path ++ name)
