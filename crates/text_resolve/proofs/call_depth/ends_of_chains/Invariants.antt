use Rattle.std.proofs.Common.{suc}
use Rattle.text_resolve.specs.CallDepth.{AreEnds}
use Rattle.text_resolve.proofs.call_depth.ends_of_chains.Given as goal

abbrev pub invariant-loop-call : goal.invariant-loop-call
invariant-loop-call l = AreEnds l.calls l.top (suc l._call) l.ends
