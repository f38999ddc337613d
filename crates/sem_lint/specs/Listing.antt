-- The formats by which nothing can be packed, each with one of its obstacles, in the order of the text.
use Rattle.std.specs.Prelude.{◌≡◌, ℕ, ◌+◌, ◌<◌, ◌≤◌, List, [], ◌∷◌, ◌++◌, length, slice_get, Some}
use Rattle.sem_profile.specs.declared.profile.Method.{Method}
use Rattle.sem_profile.specs.Resolved.{Resolved}
use Rattle.sem_filling.specs.declared.obstacle.DeadFormat.{DeadFormat}
use Rattle.sem_filling.specs.declared.obstacle.Obstacle.{Obstacle}
use Rattle.sem_lint.specs.Obstacles.{Hinders}

-- those from the format n of the method k on
pub data AreDead (p : Resolved) : ℕ → ℕ → List DeadFormat → Type 0 where
  -- no more methods
  ends : {k n : ℕ} → length p.methods ≤ k → AreDead p k n []
  -- no more formats in this one
  next_method : {k n : ℕ} {found : List DeadFormat} (m : Method) → slice_get p.methods k ≡ Some m → length m.formats ≤ n → AreDead p (k + 1) 0 found → AreDead p k n found
  -- the format has an obstacle
  finds : {k n : ℕ} {found : List DeadFormat} (m : Method) (o : Obstacle) → slice_get p.methods k ≡ Some m → n < length m.formats → Hinders p k n o → AreDead p k (n + 1) found
      → AreDead p k n (record { method = k; format = n; obstacle = o } ∷ found)
  -- it has none
  passes : {k n : ℕ} {found : List DeadFormat} (m : Method) → slice_get p.methods k ≡ Some m → n < length m.formats → ((o : Obstacle) → Hinders p k n o → ⊥) → AreDead p k (n + 1) found
      → AreDead p k n found

-- whatever is found from here on, it and what was found so far are those of the profile
abbrev pub SoFar : Resolved → ℕ → ℕ → List DeadFormat → Type 0
SoFar p k n found = (more : List DeadFormat) → AreDead p k n more → AreDead p 0 0 (found ++ more)

-- the format was added, or it has no obstacle
pub data IsNoted (p : Resolved) (k n : ℕ) : List DeadFormat → List DeadFormat → Type 0 where
  added : {found : List DeadFormat} (o : Obstacle) → Hinders p k n o → IsNoted p k n found (found ++ record { method = k; format = n; obstacle = o } ∷ [])
  unchanged : {found : List DeadFormat} → ((o : Obstacle) → Hinders p k n o → ⊥) → IsNoted p k n found found
