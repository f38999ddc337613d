-- Marks of methods, and which methods are known to be lifeless by them.
use Rattle.std.specs.Prelude.{◌≡◌, ℕ, ◌⊎◌, Bool, true, false, List, [], length, slice_get, unwrap_or, Some}
use Rattle.sem_expr.specs.declared.expr.Expr.{Expr}
use Rattle.sem_profile.specs.declared.profile.Encoding.TheVariants as encoding
use Rattle.sem_profile.specs.declared.profile.Field.{Field}
use Rattle.sem_profile.specs.declared.profile.Format.{Format}
use Rattle.sem_profile.specs.declared.profile.Method.{Method}
use Rattle.sem_graph.specs.Calls.{marked}
use Rattle.sem_profile.specs.Resolved.{Resolved}
use Rattle.sem_lint.specs.Obstacles.{Stands, IsLifeless}
use Rattle.sem_filling.specs.declared.obstacle.Obstacle.{Obstacle}

abbrev pub marked_at : List Bool → ℕ → Bool
marked_at marks k = unwrap_or (slice_get marks k) false

-- just the lifeless methods are marked
pub record AreMarked (p : Resolved) (marks : List Bool) : Type 0 where
  pub only : (k : ℕ) → marked_at marks k ≡ true → IsLifeless p k
  pub all : (k : ℕ) → IsLifeless p k → marked_at marks k ≡ true

-- the field i calls a marked method
pub record CallsMarked (marks : List Bool) (fields : List Field) (i : ℕ) : Type 0 where
  pub field : Field
  pub field_at : slice_get fields i ≡ Some field
  pub method : ℕ
  pub arguments : List Expr
  pub is_call : field.encoding ≡ encoding.Call method arguments
  pub marked : marked_at marks method ≡ true

-- ---- as methods are marked

-- the format n of the method k has an obstacle of its own
abbrev pub own_at : List (List Bool) → ℕ → ℕ → Bool
own_at own k n = marked_at (unwrap_or (slice_get own k) []) n

-- the truth of that
pub record IsOwn (p : Resolved) (k n : ℕ) (own : Bool) : Type 0 where
  pub only : own ≡ true → (o : Obstacle) × Stands p k n o
  pub all : (o : Obstacle) → Stands p k n o → own ≡ true

-- of each format of the method, and of each method
abbrev pub IsRow : Resolved → ℕ → List Bool → Type 0
IsRow p k row = (n : ℕ) → IsOwn p k n (marked_at row n)

abbrev pub AreOwn : Resolved → List (List Bool) → Type 0
AreOwn p own = (k n : ℕ) → IsOwn p k n (own_at own k n)

-- the format has an obstacle of its own, or calls a marked method
abbrev pub IsHeld : List Bool → Bool → List Field → Type 0
IsHeld marks own fields = (own ≡ true) ⊎ ((i : ℕ) × CallsMarked marks fields i)

-- so it is with each of the method's formats
abbrev pub AreHeldIn : List (List Bool) → List Bool → ℕ → List Format → Type 0
AreHeldIn own marks k formats = (n : ℕ) (format : Format) → slice_get formats n ≡ Some format → IsHeld marks (own_at own k n) format.fields

pub record AreHeld (p : Resolved) (own : List (List Bool)) (marks : List Bool) (k : ℕ) : Type 0 where
  pub method : Method
  pub method_at : slice_get p.methods k ≡ Some method
  pub each : AreHeldIn own marks k method.formats

-- the method isn't marked, and each of its formats is held
pub record IsNext (p : Resolved) (own : List (List Bool)) (marks : List Bool) (k : ℕ) : Type 0 where
  pub unmarked : marked_at marks k ≡ false
  pub held : AreHeld p own marks k

-- methods that are marked so far are lifeless
pub record SomeMarked (p : Resolved) (marks : List Bool) (count : ℕ) : Type 0 where
  pub length_is : length marks ≡ length p.methods
  pub only : (k : ℕ) → marked_at marks k ≡ true → IsLifeless p k
  pub count_is : marked marks ≡ count
