use Rattle.sem_reasons.specs.Settings.{setting_of}
use Rattle.sem_reasons.proofs.ReasonsMaking.{if_ok, verdict_at_once}
use Rattle.sem_reasons.proofs.verdicts.add_verdict.Goals as goal

pub returns-in-Some : goal.returns-in-Some
returns-in-Some c =
    if_ok c.push.result _ _
    (λ is. verdict_at_once (setting_of c.args.question.now) c.args.format c.args.lines.now c.push.new.self c.line.result c.in-Some.reason (rw c.in-Some.is at c.in_ok-reason.ensures) c.line.ensures is) c.push.ensures.ok
