use Rattle.std.proofs.Common.{◌≡◌, ◌++◌, drop, map}
use Rattle.sem_profile.specs.Uses.{method_uses, uses_of}
use Rattle.text_resolve.proofs.call_graph.uses_of.Given as goal

abbrev pub invariant-loop-method : goal.invariant-loop-method
invariant-loop-method l = l.uses ++ map method_uses (drop l.method-index l.methods) ≡ uses_of l.methods
