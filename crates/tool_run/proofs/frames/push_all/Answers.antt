use Rattle.std.proofs.Common.{ℕ, []}
use Rattle.std.proofs.lemmas.List.{get_or_read}
use Rattle.walk_frames.specs.declared.given.Given.{Given}
use Rattle.walk_frames.specs.declared.given.Given.TheVariants as given
use Rattle.walk_frames.specs.declared.given.PacketRefusal.TheVariants.{Length}
use Rattle.tool_run.proofs.FrameFlowing.{all_pushed, none_pushed, one_pushed}
use Rattle.tool_run.proofs.frames.push_all.Goals as goal

pub loop-flow-init : goal.loop-flow-init
loop-flow-init c = none_pushed c.args.methods.now c.args.found.now _

pub loop-flow-preserved : goal.loop-flow-preserved
loop-flow-preserved c =
    let d : ℕ × Given = (0, given.Refused Length) in
    let x = get_or_read c.args.found.now c.loop-flow.flow-index c.loop-flow-item.result c.loop-flow-test.true c.loop-flow-item.is d in
    one_pushed c.args.methods.now c.args.found.now c.loop-flow.flow-index d c.loop-flow-item.result _ _ _ c.loop-flow-test.true x c.loop-flow.invariant c.in_ok-push_given.ensures

pub returns : goal.returns
returns c = all_pushed c.args.methods.now c.args.found.now c.loop-flow.flow-index _ _ c.loop-flow-test.false c.loop-flow.invariant
