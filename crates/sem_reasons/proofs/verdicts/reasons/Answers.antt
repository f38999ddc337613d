use Rattle.std.proofs.Common.{rules}
use Rattle.sem_reasons.specs.Settings.{setting_of}
use Rattle.sem_reasons.proofs.ReasonsMaking.{verdict_next, verdicts_end}
use Rattle.sem_reasons.proofs.verdicts.reasons.Goals as goal

pub returns : goal.returns
returns c = verdicts_end (setting_of c.args.question.now) c.loop-format.format c.loop-format.lines (search rules) c.loop-format.invariant

pub loop-format-preserved : goal.loop-format-preserved
loop-format-preserved c = verdict_next (setting_of c.args.question.now) c.loop-format.format c.loop-format.lines _ (search rules) c.in_ok-add_verdict.ensures c.loop-format.invariant
