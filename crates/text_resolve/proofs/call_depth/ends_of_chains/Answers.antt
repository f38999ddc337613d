use Rattle.std.proofs.Common.{arith, ◌≡◌, ◌+◌, suc, subst}
use Rattle.text_resolve.specs.CallDepth.{AreEnds}
use Rattle.text_resolve.proofs.CallDepthEnds.{first_ends, next_ends}
use Rattle.text_resolve.proofs.call_depth.ends_of_chains.Goals as goal

pub loop-call-init : goal.loop-call-init
loop-call-init c = rw c.set.ensures (first_ends c.args.calls.now c.args.top _ c.requires.top c.in_ok-ends.ensures)

pub loop-call-preserved : goal.loop-call-preserved
loop-call-preserved c =
    let n : suc c.loop-call._call ≡ c.loop-call._call + 1 = omega arith in
    subst (λ k. AreEnds c.args.calls.now c.args.top (suc k) c.in_ok-ends-2.ends) n
    (next_ends c.args.calls.now c.args.top c.loop-call._call c.loop-call.ends c.in_ok-ends-2.ends c.loop-call.invariant (rw c.as_slice.ensures at c.in_ok-ends-2.ensures))
