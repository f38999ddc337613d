use Rattle.std.proofs.Common.{◌≡◌, drop}
use Rattle.std.specs.List.{list_any}
use Rattle.sem_graph.specs.Order.{leads_back}
use Rattle.text_resolve.proofs.recursion.is_back_among.Given as goal

abbrev pub invariant-loop-callee : goal.invariant-loop-callee
invariant-loop-callee l = list_any (leads_back l.table l.caller) (drop l.callee-index l.callees) ≡ list_any (leads_back l.table l.caller) l.callees
