-- What an obstacle says.
use Rattle.std.specs.Prelude.{ℕ}
use Rattle.sem_profile.specs.Resolved.{Resolved, IsSound}
use Rattle.sem_filling.specs.declared.obstacle.Obstacle.{Obstacle}
use Rattle.sem_lint.specs.Obstacles.{Hinders, IsDead}

-- a format with an obstacle is dead
abbrev pub ObstaclesKill : Type 0
ObstaclesKill = (p : Resolved) → IsSound p → (k n : ℕ) (o : Obstacle) → Hinders p k n o → IsDead p k n
