use Rattle.std.proofs.Common.{◌≡◌, drop}
use Rattle.sem_reasons.specs.Reasons.{lacking}
use Rattle.sem_reasons.specs.Settings.{setting_of}
use Rattle.sem_reasons.proofs.references.lacking.Given as goal

abbrev pub invariant-loop-index : goal.invariant-loop-index
invariant-loop-index l = lacking (setting_of l.question) l.index (drop l.index l.fields) ≡ lacking (setting_of l.question) 0 l.fields
