use Rattle.std.proofs.Common.{arith}
use Rattle.std.specs.Prelude.{string_bytes}
use Rattle.tool_run.proofs.FramePieces.{heard_all, heard_ended, heard_fault, heard_first, heard_next, piece_is}
use Rattle.tool_run.proofs.frames.push_heard.Goals as goal

pub loop-place-init : goal.loop-place-init
loop-place-init c = heard_first c.args.accepted.now c.args.octets.now _ (string_bytes c.args.output.now) c.in_ok-receiver.ensures

pub returns-in-Some : goal.returns-in-Some
returns-in-Some c =
    heard_fault c.args.accepted.now c.args.octets.now _ c.loop-place.place c.min-count.result _ _ _ _ _ c.in-Some.fault (piece_is c.args.octets.now c.loop-place.place c.min-count.result) c.loop-place.invariant (rw c.in-Some.is at c.in_ok-fault.ensures)

pub loop-place-preserved : goal.loop-place-preserved
loop-place-preserved c =
    heard_next c.args.accepted.now c.args.octets.now _ c.loop-place.place c.min-count.result _ _ _ _ _ (omega arith) (piece_is c.args.octets.now c.loop-place.place c.min-count.result) c.loop-place.invariant (rw c.in-None.is at c.in_ok-fault.ensures)

pub returns-in-Ok : goal.returns-in-Ok
returns-in-Ok c =
    heard_all c.args.accepted.now c.args.octets.now c.loop-place.place _ _ _ c.loop-place-test.false (rw c.in-Ok.is at c.finish.ensures) c.loop-place.invariant

pub returns : goal.returns
returns c =
    heard_ended c.args.accepted.now c.args.octets.now c.loop-place.place _ _ _ c.in-Err.fault c.loop-place-test.false (rw c.in-Err.is at c.finish.ensures) c.loop-place.invariant
