use Rattle.std.proofs.Common.{◌≡◌, ◌++◌, drop, map}
use Rattle.text_resolve.proofs.calls.callees.Given as goal

abbrev pub invariant-loop-call : goal.invariant-loop-call
invariant-loop-call l = l.found ++ map (λ c. c.method) (drop l.call-index l.calls) ≡ map (λ c. c.method) l.calls
