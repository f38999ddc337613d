use Rattle.std.proofs.Common.{◌≡◌, take}
use Rattle.sem_profile.specs.Passes.{indexed}
use Rattle.cert_rules.specs.Rules as rules
use Rattle.cert_trees.proofs.choices.choices.Given as goal

abbrev pub invariant-loop-field : goal.invariant-loop-field
invariant-loop-field l = l.found ≡ indexed (rules.choice l.format) 0 (take l.field-index l.format.fields)
