use Rattle.std.proofs.Common.{sym}
use Rattle.sem_reasons.specs.Settings.{setting_of}
use Rattle.sem_reasons.proofs.ReasonsMaking.{no_format}
use Rattle.sem_reasons.proofs.verdicts.rest_at.Goals as goal

pub returns-in-None : goal.returns-in-None
returns-in-None c = no_format (setting_of c.args.question.now) c.args.format (sym (rw c.in-None.is at c.format_of.ensures))
