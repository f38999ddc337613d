use Rattle.std.proofs.Common.{◌≡◌, ◌++◌, drop, map}
use Rattle.sem_profile.specs.Uses.{used_methods, used_graph}
use Rattle.text_resolve.proofs.call_graph.used_graph.Given as goal

abbrev pub invariant-loop-method : goal.invariant-loop-method
invariant-loop-method l = l.graph ++ map used_methods (drop l.method-index l.methods) ≡ used_graph l.methods
