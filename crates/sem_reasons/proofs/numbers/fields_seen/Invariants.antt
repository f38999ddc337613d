use Rattle.std.proofs.Common.{◌≡◌, ◌++◌, drop}
use Rattle.sem_reasons.specs.Told.{fields_from}
use Rattle.sem_reasons.proofs.numbers.fields_seen.Given as goal

abbrev pub invariant-loop-field : goal.invariant-loop-field
invariant-loop-field l = l.found ++ fields_from l.sights l.field (drop l.field l.base) ≡ fields_from l.sights 0 l.base
