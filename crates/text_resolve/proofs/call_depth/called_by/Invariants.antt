use Rattle.text_resolve.proofs.CallDepthEnds.{CalledSo}
use Rattle.text_resolve.proofs.call_depth.called_by.Given as goal

abbrev pub invariant-loop-caller : goal.invariant-loop-caller
invariant-loop-caller l = CalledSo l.calls l.callers l.caller l.called
