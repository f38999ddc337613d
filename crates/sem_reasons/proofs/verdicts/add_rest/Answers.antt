use Rattle.sem_reasons.specs.Settings.{setting_of}
use Rattle.sem_reasons.proofs.FieldsClear.{clear_is}
use Rattle.sem_reasons.proofs.ReasonsMaking.{if_ok, verdict_at_once, verdict_open}
use Rattle.sem_reasons.proofs.verdicts.add_rest.Goals as goal

pub returns-in-Some : goal.returns-in-Some
returns-in-Some c =
    if_ok c.push.result _ _
    (λ is. verdict_at_once (setting_of c.args.question.now) c.args.format c.args.lines.now c.push.new.self c.line.result c.in-Some.reason (rw c.in-Some.is at c.in_ok-reason.ensures) c.line.ensures is) c.push.ensures.ok

pub returns-in-None : goal.returns-in-None
returns-in-None c =
    let referred = rw c.in-None.is at c.in_ok-reason.ensures in
    let clear = clear_is (setting_of c.args.question.now) c.args.format c.requires.is_open referred c.requires.none in
    if_ok c.push-in-None.result _ _
    (λ is. verdict_open (setting_of c.args.question.now) c.args.format c.args.lines.now c.push-in-None.new.self c.line-in-None.result c.requires.is_open referred clear c.line-in-None.ensures is) c.push-in-None.ensures.ok
