use Rattle.std.proofs.Common.{◌++◌, map, drop, List}
use Rattle.text_methods.specs.Constraints.{Statement, on, Leads}
use Rattle.text_methods.proofs.constraints.add_items.Given as goal

abbrev pub invariant-loop-item : goal.invariant-loop-item
invariant-loop-item l = (rest whole : List Statement) → Leads l.scope (map (on l.side) l.items ++ rest) whole l.initial.all.found l.initial.all.fault
    → Leads l.scope (map (on l.side) (drop l.item-index l.items) ++ rest) whole l.all.found l.all.fault
