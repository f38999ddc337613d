use Rattle.std.proofs.Common.{◌++◌, map, drop, List}
use Rattle.sem_expr.specs.declared.expr.Side.TheVariants.{Uncompressed}
use Rattle.text_methods.specs.Constraints.{Statement, on, Leads}
use Rattle.text_methods.proofs.constraints.add_base.Given as goal

abbrev pub invariant-loop-place : goal.invariant-loop-place
invariant-loop-place l = (rest whole : List Statement) → Leads l.scope (map (on Uncompressed) l.items ++ rest) whole l.initial.all.found l.initial.all.fault
    → Leads l.scope (map (on Uncompressed) (drop l.place l.items) ++ rest) whole l.all.found l.all.fault
