use Rattle.std.proofs.Common.{◌≡◌, ◌++◌, drop}
use Rattle.std.specs.Prelude.{flat_map}
use Rattle.sem_expr.specs.Inputs.{inputs_of}
use Rattle.tool_items.proofs.asked.all_inputs.Given as goal

abbrev pub invariant-loop-expr : goal.invariant-loop-expr
invariant-loop-expr l = l.found ++ flat_map inputs_of (drop l.expr-index l.exprs) ≡ flat_map inputs_of l.exprs
