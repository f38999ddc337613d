use Rattle.sem_lint.proofs.ObstaclesDead.{obstacles-kill}
use Rattle.sem_lint.proofs.laws.obstacles_kill.Goals as goal

pub returns : goal.returns
returns c = obstacles-kill
