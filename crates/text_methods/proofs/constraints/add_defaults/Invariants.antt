use Rattle.std.proofs.Common.{◌++◌, drop, List}
use Rattle.text_methods.specs.Constraints.{Statement, defaults_from, Leads}
use Rattle.text_methods.proofs.constraints.add_defaults.Given as goal

abbrev pub invariant-loop-place : goal.invariant-loop-place
invariant-loop-place l = (rest whole : List Statement) → Leads l.scope (defaults_from l.scope l.chosen 0 l.sections ++ rest) whole l.initial.all.found l.initial.all.fault
    → Leads l.scope (defaults_from l.scope l.chosen l.place (drop l.place l.sections) ++ rest) whole l.all.found l.all.fault
