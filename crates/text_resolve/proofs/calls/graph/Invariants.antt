use Rattle.std.proofs.Common.{◌≡◌, ◌++◌, drop}
use Rattle.text_resolve.specs.Calls.{graph_of}
use Rattle.text_resolve.proofs.calls.graph.Given as goal

abbrev pub invariant-loop-part : goal.invariant-loop-part
invariant-loop-part l = l.graph ++ graph_of l.text l.methods (drop l.part-index l.parts) ≡ graph_of l.text l.methods l.parts
