use Rattle.sem_reasons.specs.Settings.{setting_of}
use Rattle.sem_reasons.proofs.ReasonsMaking.{if_ok, verdict_out}
use Rattle.sem_reasons.proofs.verdicts.add_look.Goals as goal

pub returns-in-Some : goal.returns-in-Some
returns-in-Some c =
    if_ok c.append.result _ _
    (λ is. verdict_out (setting_of c.args.question.now) c.args.format c.args.lines.now c.append.new.self c.in-Some.more (rw c.in-Some.is at c.in_ok-more.ensures) is) c.append.ensures
