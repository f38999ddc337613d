use Rattle.std.proofs.Common.{subst}
use Rattle.std.specs.Prelude.{MatchOption}
use Rattle.sem_profile.specs.Resolved.{Resolved, IsSound}
use Rattle.sem_lint.specs.Obstacles.{Stands, Hinders}
use Rattle.sem_filling.specs.declared.obstacle.Obstacle.{Obstacle}
use Rattle.sem_lint.proofs.ObstaclesDead.{none_dead}
use Rattle.sem_lint.proofs.ObstaclesStanding.{own_hinders, some_hinders, none_hinders, there_is, there_is_none}
use Rattle.sem_lint.proofs.obstacle.obstacle_of.Goals as goal

own : (c : goal.Then-is_some) → MatchOption c.in_ok-own.own ((o : Obstacle) → Stands c.args.judged.now c.args.method c.args.format o → ⊥) (Stands c.args.judged.now c.args.method c.args.format)
own c =
    subst (λ (q : Resolved). MatchOption c.in_ok-own.own ((o : Obstacle) → Stands q c.args.method c.args.format o → ⊥) (Stands q c.args.method c.args.format)) c.profile-2.ensures c.in_ok-own.ensures

pub returns-then-is_some-clause-found : goal.returns-then-is_some-clause-found
returns-then-is_some-clause-found c = own_hinders c.args.judged.now c.args.method c.args.format c.in_ok-own.own (own c)

pub returns-then-is_some-clause-dead : goal.returns-then-is_some-clause-dead
returns-then-is_some-clause-dead c =
    none_dead c.args.judged.now (subst IsSound c.profile.ensures c.keeps.ensures) c.args.method c.args.format c.in_ok-own.own (own_hinders c.args.judged.now c.args.method c.args.format c.in_ok-own.own (own c))

pub returns-then-is_some-clause-none : goal.returns-then-is_some-clause-none
returns-then-is_some-clause-none c = there_is ((o : Obstacle) → Hinders c.args.judged.now c.args.method c.args.format o → ⊥) c.in_ok-own.own c.if-is_some.ensures

pub returns-clause-found : goal.returns-clause-found
returns-clause-found c = some_hinders c.args.judged.now c.args.method c.args.format c.calls_dead.result c.calls_dead.ensures

pub returns-clause-dead : goal.returns-clause-dead
returns-clause-dead c =
    none_dead c.args.judged.now (subst IsSound c.profile.ensures c.keeps.ensures) c.args.method c.args.format c.calls_dead.result
    (some_hinders c.args.judged.now c.args.method c.args.format c.calls_dead.result c.calls_dead.ensures)

pub returns-clause-none : goal.returns-clause-none
returns-clause-none c =
    none_hinders c.args.judged.now c.args.method c.args.format c.calls_dead.result
    (there_is_none ((o : Obstacle) → Stands c.args.judged.now c.args.method c.args.format o → ⊥) (Stands c.args.judged.now c.args.method c.args.format) c.in_ok-own.own c.if-is_some.ensures
    (subst (λ (q : Resolved). MatchOption c.in_ok-own.own ((o : Obstacle) → Stands q c.args.method c.args.format o → ⊥) (Stands q c.args.method c.args.format)) c.profile-2.ensures c.in_ok-own.ensures))
    c.calls_dead.ensures
