use Rattle.text_resolve.proofs.CallDepthShallow.{judged_ends}
use Rattle.text_resolve.proofs.call_depth.deep_call.Goals as goal

pub returns : goal.returns
returns c =
    judged_ends c.args.calls.now c.args.top c.in_ok-ends.ends c.args.names.now c.first_deep.result c.in_ok-ends.ensures c.requires.methods
    (rw c.as_slice.ensures at c.first_deep.ensures)
