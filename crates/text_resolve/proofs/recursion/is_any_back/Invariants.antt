use Rattle.std.proofs.Common.{◌≡◌, drop}
use Rattle.text_resolve.specs.Recursion.{is_any_back}
use Rattle.text_resolve.proofs.recursion.is_any_back.Given as goal

abbrev pub invariant-loop-caller : goal.invariant-loop-caller
invariant-loop-caller l = is_any_back l.table l.caller (drop l.caller l.graph) ≡ is_any_back l.table 0 l.graph
