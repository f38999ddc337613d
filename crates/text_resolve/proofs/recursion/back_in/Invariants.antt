use Rattle.std.proofs.Common.{◌≡◌, drop}
use Rattle.text_resolve.specs.Recursion.{back_in}
use Rattle.text_resolve.proofs.recursion.back_in.Given as goal

abbrev pub invariant-loop-call : goal.invariant-loop-call
invariant-loop-call l = back_in l.table l.caller (drop l.call-index l.calls) ≡ back_in l.table l.caller l.calls
