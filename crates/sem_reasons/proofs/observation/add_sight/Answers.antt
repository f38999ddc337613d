use Rattle.sem_reasons.proofs.ReasonsMaking.{if_ok, one_seen}
use Rattle.sem_reasons.proofs.observation.add_sight.Goals as goal

pub returns : goal.returns
returns c =
    if_ok c.push.result _ _ (λ is. one_seen c.args.look.now c.args.index c.args.found.now c.push.new.self c.in_ok-sight.sight is c.in_ok-sight.ensures) c.push.ensures.ok
