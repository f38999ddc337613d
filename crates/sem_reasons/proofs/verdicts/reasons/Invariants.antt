use Rattle.sem_reasons.specs.Listing as listing
use Rattle.sem_reasons.specs.Settings.{setting_of}
use Rattle.sem_reasons.proofs.verdicts.reasons.Given as goal

abbrev pub invariant-loop-format : goal.invariant-loop-format
invariant-loop-format l = listing.SoFar (setting_of l.question) l.format l.lines
