use Rattle.std.proofs.Common.{◌≡◌, ◌++◌, drop}
use Rattle.sem_profile.specs.Asked.{asked_from, asked_in}
use Rattle.sem_profile.proofs.asked.asked_in.Given as goal

abbrev pub invariant-loop-index : goal.invariant-loop-index
invariant-loop-index l = l.asked ++ asked_from l.format.constraints l.index (drop l.index l.format.fields) ≡ asked_in l.format
