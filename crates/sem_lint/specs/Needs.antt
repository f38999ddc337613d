-- Formats that are never used in a flow, by what can be in the context (docs/DEFINITIONS.md, What lint tells).
use Rattle.std.specs.Prelude.{◌≡◌, ℕ, ◌+◌, ◌<◌, ◌≤◌, ◌&&◌, Bool, true, false, is_none, List, [], ◌∷◌, ◌++◌, length, slice_get, option_and_then, unwrap_or, string_bytes, Some, ◌⊎◌}
use Rattle.std.specs.List.{list_any}
use Rattle.std.specs.Str.{bytes_eq}
use Rattle.sem_profile.specs.declared.profile.Encoding.{Encoding}
use Rattle.sem_profile.specs.declared.profile.Encoding.TheVariants as encoding
use Rattle.sem_profile.specs.declared.profile.Library.TheVariants as library
use Rattle.sem_profile.specs.declared.profile.Field.{Field}
use Rattle.sem_profile.specs.declared.profile.Format.{Format}
use Rattle.sem_profile.specs.declared.profile.Method.{Method}
use Rattle.sem_lint.specs.Paths.{called_by, keeps}
use Rattle.sem_lint.specs.Sites.{AreMore, format_in, inner_path}
use Rattle.sem_profile.specs.Resolved.{Resolved}
use Rattle.sem_lint.specs.Obstacles.{Hinders}
use Rattle.sem_lint.specs.declared.needs.Needing.{Needing}
use Rattle.sem_filling.specs.declared.obstacle.Obstacle.{Obstacle}

-- ---- what a field needs

abbrev pub takes_reference : Encoding → Bool
takes_reference (encoding.Library library.Static) = true
takes_reference (encoding.Library (library.Lsb bits offset)) = true
takes_reference _ = false

-- the field is encoded by `static` or `lsb`, and INITIAL gives it no value
abbrev pub needs_reference : Field → Bool
needs_reference d = takes_reference d.encoding && is_none d.initial

-- what a table says of it: that it has an obstacle
abbrev pub is_dead : List (List Bool) → ℕ → ℕ → Bool
is_dead dead k n = unwrap_or (option_and_then (λ (row : List Bool). slice_get row n) (slice_get dead k)) false

-- ---- the rule

-- the paths of the context at the start are given
mutual
  -- An entry of that name below that path may be in the context: it is given, or a method that is reached there and can be used there leaves it.
  pub data MayBeThere (methods : List Method) (top : ℕ) (dead : List (List Bool)) (given : List (List ℕ)) : List ℕ → List ℕ → Type 0 where
    is_given : {path name : List ℕ} → list_any (bytes_eq (path ++ name)) given ≡ true → MayBeThere methods top dead given path name
    is_left : {path name : List ℕ} (k : ℕ) → IsReached methods top dead given path k → CanBeUsed methods top dead given path k → keeps methods k name ≡ true
        → MayBeThere methods top dead given path name

  -- A field below a path has what it needs: its entry may be there, and the method that it calls can be used there.
  pub data IsServed (methods : List Method) (top : ℕ) (dead : List (List Bool)) (given : List (List ℕ)) : List ℕ → Field → Type 0 where
    serves : {path : List ℕ} {d : Field} → (needs_reference d ≡ true → MayBeThere methods top dead given path d.declared.name)
        → ((m : ℕ) → called_by d.encoding ≡ Some m → CanBeUsed methods top dead given (inner_path path d.declared.name) m) → IsServed methods top dead given path d

  -- A format of the method k without an obstacle has what each of its fields needs, below that path.
  pub data CanBeUsed (methods : List Method) (top : ℕ) (dead : List (List Bool)) (given : List (List ℕ)) : List ℕ → ℕ → Type 0 where
    by_format : {path : List ℕ} {k : ℕ} (n : ℕ) (f : Format) → format_in methods k n ≡ Some f → is_dead dead k n ≡ false
        → ((i : ℕ) (d : Field) → slice_get f.fields i ≡ Some d → IsServed methods top dead given path d) → CanBeUsed methods top dead given path k

  -- The method is reached below that path: it is the top, or a format calls it that can be used where its own method is reached.
  pub data IsReached (methods : List Method) (top : ℕ) (dead : List (List Bool)) (given : List (List ℕ)) : List ℕ → ℕ → Type 0 where
    at_top : IsReached methods top dead given [] top
    by_call : {path : List ℕ} (k n i m : ℕ) (f : Format) (d : Field) → IsReached methods top dead given path k → format_in methods k n ≡ Some f → is_dead dead k n ≡ false
        → ((j : ℕ) (e : Field) → slice_get f.fields j ≡ Some e → IsServed methods top dead given path e) → slice_get f.fields i ≡ Some d → called_by d.encoding ≡ Some m
        → IsReached methods top dead given (inner_path path d.declared.name) m

-- each field of a format has what it needs
abbrev pub Serves : List Method → ℕ → List (List Bool) → List (List ℕ) → List ℕ → Format → Type 0
Serves methods top dead given path f = (i : ℕ) (d : Field) → slice_get f.fields i ≡ Some d → IsServed methods top dead given path d

-- The path is that of a field that lacks what it needs: of one of the format, or of a format of a method that is called and can't be used.
pub data Lacks (methods : List Method) (top : ℕ) (dead : List (List Bool)) (given : List (List ℕ)) : List ℕ → Format → List ℕ → Type 0 where
  lacks_own : {path : List ℕ} {f : Format} (i : ℕ) (d : Field) → slice_get f.fields i ≡ Some d → (IsServed methods top dead given path d → ⊥) → Lacks methods top dead given path f (path ++ d.declared.name)
  lacks_inside : {path : List ℕ} {f : Format} {told : List ℕ} (i m n : ℕ) (d : Field) (g : Format) → slice_get f.fields i ≡ Some d → called_by d.encoding ≡ Some m
      → (CanBeUsed methods top dead given (inner_path path d.declared.name) m → ⊥) → format_in methods m n ≡ Some g → Lacks methods top dead given (inner_path path d.declared.name) g told
      → Lacks methods top dead given path f told

-- The format n of the method k has no obstacle; its method is reached, but nowhere has the format what it needs; what it lacks at one place is told.
pub record IsNeverUsed (methods : List Method) (top : ℕ) (dead : List (List Bool)) (given : List (List ℕ)) (k n : ℕ) (told : List ℕ) : Type 0 where
  pub format : Format
  pub format_is : format_in methods k n ≡ Some format
  pub alive : is_dead dead k n ≡ false
  pub path : List ℕ
  pub reached : IsReached methods top dead given path k
  pub lacks : Lacks methods top dead given path format told
  pub nowhere : (other : List ℕ) → IsReached methods top dead given other k → Serves methods top dead given other format → ⊥

-- ---- what is told

-- those from the format n of the method k on, in the order of the text, each with what it lacks
pub data AreNeedingFrom (methods : List Method) (top : ℕ) (dead : List (List Bool)) (given : List (List ℕ)) : ℕ → ℕ → List Needing → Type 0 where
  -- no more methods
  no_method : {k n : ℕ} → length methods ≤ k → AreNeedingFrom methods top dead given k n []
  -- no more formats in this one
  next_method : {k n : ℕ} {found : List Needing} (m : Method) → slice_get methods k ≡ Some m → length m.formats ≤ n → AreNeedingFrom methods top dead given (k + 1) 0 found → AreNeedingFrom methods top dead given k n found
  -- the format is never used
  tells : {k n : ℕ} {found : List Needing} (m : Method) (needing : Needing) → slice_get methods k ≡ Some m → n < length m.formats → needing.method ≡ k → needing.format ≡ n
      → IsNeverUsed methods top dead given k n (string_bytes needing.path) → AreNeedingFrom methods top dead given k (n + 1) found → AreNeedingFrom methods top dead given k n (needing ∷ found)
  -- it may be used, or it has an obstacle, or its method is reached nowhere
  passes : {k n : ℕ} {found : List Needing} (m : Method) → slice_get methods k ≡ Some m → n < length m.formats → ((told : List ℕ) → IsNeverUsed methods top dead given k n told → ⊥)
      → AreNeedingFrom methods top dead given k (n + 1) found → AreNeedingFrom methods top dead given k n found

-- the table says of each format whether it has an obstacle
abbrev pub TellsObstacles : Resolved → List (List Bool) → Type 0
TellsObstacles p dead = (k n : ℕ) (f : Format) → format_in p.methods k n ≡ Some f
    → (is_dead dead k n ≡ true → (o : Obstacle) × Hinders p k n o) × (is_dead dead k n ≡ false → (o : Obstacle) → Hinders p k n o → ⊥)

-- The formats that are never used in a flow that begins with entries at the given paths: all of them; none of a profile with more than 256 methods by path.
pub record AreNeeding (p : Resolved) (given : List (List ℕ)) (found : List Needing) : Type 0 where
  pub dead : List (List Bool)
  pub tells_obstacles : TellsObstacles p dead
  pub are_all : (AreMore p.methods p.top 256 × (found ≡ [])) ⊎ AreNeedingFrom p.methods p.top dead given 0 0 found
