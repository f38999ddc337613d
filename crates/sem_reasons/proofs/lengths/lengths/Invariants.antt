use Rattle.std.proofs.Common.{◌≡◌, ◌++◌, drop}
use Rattle.sem_reasons.specs.Settings.{setting_of}
use Rattle.sem_reasons.specs.Told.{lengths_from}
use Rattle.sem_reasons.proofs.lengths.lengths.Given as goal

abbrev pub invariant-loop-index : goal.invariant-loop-index
invariant-loop-index l = l.found ++ lengths_from (setting_of l.question) l.base l.sizes l.index (drop l.index l.fields) ≡ lengths_from (setting_of l.question) l.base l.sizes 0 l.fields
