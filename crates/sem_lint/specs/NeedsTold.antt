-- Formats that are never used, one after the other.
use Rattle.std.specs.Prelude.{◌≡◌, ℕ, ◌&&◌, nat_eq, Bool, true, false, List, [], ◌∷◌, ◌++◌, length, slice_get, string_bytes, Some}
use Rattle.sem_profile.specs.declared.profile.Format.{Format}
use Rattle.sem_profile.specs.Resolved.{Resolved}
use Rattle.sem_lint.specs.Obstacles.{Hinders}
use Rattle.sem_lint.specs.Sites.{SiteAt, format_in}
use Rattle.sem_lint.specs.Needs.{AreNeedingFrom, IsNeverUsed, Lacks}
use Rattle.sem_lint.specs.NeedsSteps.{AllServed, Unserved, is_reached, texts}
use Rattle.sem_lint.specs.declared.growth.Flags.{Flags}
use Rattle.sem_lint.specs.declared.growth.Ground.{Ground}
use Rattle.sem_lint.specs.declared.sites.Site.{Site}
use Rattle.sem_lint.specs.declared.needs.Needing.{Needing}
use Rattle.sem_filling.specs.declared.obstacle.Obstacle.{Obstacle}

-- ---- obstacles

-- that a format has one is told
abbrev pub TellsOne : Resolved → ℕ → ℕ → Bool → Type 0
TellsOne p k n is = (is ≡ true → (o : Obstacle) × Hinders p k n o) × (is ≡ false → (o : Obstacle) → Hinders p k n o → ⊥)

-- that of each of so many formats
abbrev pub TellsRow : Resolved → ℕ → ℕ → List Bool → Type 0
TellsRow p k count row = (length row ≡ count) × ((n : ℕ) (is : Bool) → slice_get row n ≡ Some is → TellsOne p k n is)

-- ---- the list

-- never used, by the ground's parts
abbrev pub NeverUsed : Ground → ℕ → ℕ → List ℕ → Type 0
NeverUsed g k n told = IsNeverUsed g.methods.now g.top g.dead.now (texts g.given.now) k n told

abbrev pub NeedingFrom : Ground → ℕ → ℕ → List Needing → Type 0
NeedingFrom g k n found = AreNeedingFrom g.methods.now g.top g.dead.now (texts g.given.now) k n found

-- whatever is found from here on, it and what was found so far are all
abbrev pub SoFar : Ground → ℕ → ℕ → List Needing → Type 0
SoFar g k n found = (more : List Needing) → NeedingFrom g k n more → NeedingFrom g 0 0 (found ++ more)

-- the format was added, or it is no such
pub data IsNoted (g : Ground) (k n : ℕ) : List Needing → List Needing → Type 0 where
  noted : {found : List Needing} (needing : Needing) → needing.method ≡ k → needing.format ≡ n → NeverUsed g k n (string_bytes needing.path) → IsNoted g k n found (found ++ needing ∷ [])
  not_noted : {found : List Needing} → ((told : List ℕ) → NeverUsed g k n told → ⊥) → IsNoted g k n found found

-- ---- a method that is reached

abbrev pub is_reached_as : List Flags → ℕ → ℕ → Site → Bool
is_reached_as flags k j s = nat_eq s.method k && is_reached flags j

-- the site j is the method k, and is reached
abbrev pub IsReachedAt : Ground → List Flags → ℕ → ℕ → Type 0
IsReachedAt g flags k j = (path : List ℕ) × SiteAt g.sites.now j k path × (is_reached flags j ≡ true)

-- there the format has all that it needs
abbrev pub IsServedAt : Ground → List Flags → ℕ → Format → ℕ → Type 0
IsServedAt g flags k f j = (path : List ℕ) × SiteAt g.sites.now j k path × (is_reached flags j ≡ true) × AllServed g flags path f.fields

abbrev pub IsServedSomewhere : Ground → List Flags → ℕ → Format → Type 0
IsServedSomewhere g flags k f = (j : ℕ) × IsServedAt g flags k f j

-- what the format n of the method k lacks at the site j
abbrev pub LacksAt : Ground → ℕ → ℕ → ℕ → List ℕ → Type 0
LacksAt g k n j told =
    (path : List ℕ) × (f : Format) × SiteAt g.sites.now j k path × (format_in g.methods.now k n ≡ Some f) × Lacks g.methods.now g.top g.dead.now (texts g.given.now) path f told

-- what it lacks below a path
abbrev pub LacksBelow : Ground → List ℕ → ℕ → ℕ → List ℕ → Type 0
LacksBelow g path k n told = (f : Format) → format_in g.methods.now k n ≡ Some f → Lacks g.methods.now g.top g.dead.now (texts g.given.now) path f told

-- a field of the format n of the method k that lacks something below a path
pub record FieldLacks (g : Ground) (flags : List Flags) (path : List ℕ) (k n i : ℕ) : Type 0 where
  pub format : Format
  pub format_is : format_in g.methods.now k n ≡ Some format
  pub unserved : Unserved g flags path format.fields i
