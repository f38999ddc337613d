use Rattle.sem_reasons.specs.Settings.{setting_of}
use Rattle.sem_reasons.proofs.ReasonsMaking.{dead_is, open_is}
use Rattle.sem_reasons.proofs.verdicts.at_once.Goals as goal

pub returns-in-Some : goal.returns-in-Some
returns-in-Some c = dead_is (setting_of c.args.question.now) c.args.format c.in-Some.obstacle (rw c.in-Some.is at c.in_ok-obstacle.ensures.found)

pub returns : goal.returns
returns c = open_is (setting_of c.args.question.now) c.args.format c.of_length.result c.of_length.ensures (rw c.in_default.is at c.in_ok-obstacle.ensures.none)
