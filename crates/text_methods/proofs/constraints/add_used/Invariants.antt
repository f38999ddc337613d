use Rattle.std.proofs.Common.{◌++◌, drop, List}
use Rattle.text_methods.specs.Constraints.{Statement, used_from, Leads}
use Rattle.text_methods.proofs.constraints.add_used.Given as goal

abbrev pub invariant-loop-place : goal.invariant-loop-place
invariant-loop-place l = (rest whole : List Statement) → Leads l.scope (used_from l.scope l.chosen l.section 0 l.items ++ rest) whole l.initial.all.found l.initial.all.fault
    → Leads l.scope (used_from l.scope l.chosen l.section l.place (drop l.place l.items) ++ rest) whole l.all.found l.all.fault
