use Rattle.std.proofs.Common.{◌≡◌, ◌++◌, map, drop}
use Rattle.cert_rules.specs.Plans.{rule_of}
use Rattle.cert_prove.specs.Searching.{ruled, possible_of}
use Rattle.cert_prove.proofs.possible.with_rules.Given as goal

abbrev pub invariant-loop-step : goal.invariant-loop-step
invariant-loop-step l = map (ruled l.way.format.now) l.possible ++ possible_of (rule_of l.way.version l.way.direction l.way.table.now l.way.sizes.now l.way.format.now) (drop l.step-index l.steps) ≡ possible_of (rule_of l.way.version l.way.direction l.way.table.now l.way.sizes.now l.way.format.now) l.steps
