use Rattle.std.proofs.Common.{◌++◌, drop, List}
use Rattle.sem_expr.specs.declared.expr.Side.TheVariants.{Uncompressed}
use Rattle.text_methods.specs.Constraints.{Statement, of_group, Leads}
use Rattle.text_methods.proofs.constraints.add_group.Given as goal

abbrev pub invariant-loop-number : goal.invariant-loop-number
invariant-loop-number l = (rest whole : List Statement) → Leads l.scope (of_group Uncompressed l.group l.sections ++ rest) whole l.initial.all.found l.initial.all.fault
    → Leads l.scope (of_group Uncompressed l.group (drop l.number l.sections) ++ rest) whole l.all.found l.all.fault
