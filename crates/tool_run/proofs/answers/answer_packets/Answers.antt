use Rattle.std.proofs.Common.{◌∙◌}
use Rattle.tool_words.specs.declared.words.Direction.TheVariants.{Unpack}
use Rattle.tool_run.specs.Printed.{AnsweredIn, PrintsPackets, answered}
use Rattle.tool_input.proofs.RefusalsHeld.{passed_on}
use Rattle.tool_run.proofs.PrintedReplying.{bad_input_is}
use Rattle.tool_run.proofs.answers.answer_packets.Goals as goal

pub returns-in-Ok : goal.returns-in-Ok
returns-in-Ok c =
    passed_on (PrintsPackets c.args.shape c.args.accepted.now c.args.shows c.args.context 1 c.as_slice.result.now) (AnsweredIn Unpack c.args.shape c.args.shows c.args.accepted.now c.args.context c.args.input.now) c.unpack_all.result
    (λ s out h. answered (c.as_slice.result.now, rw c.as_slice.ensures.value c.in-Ok.ensures.found, h)) c.unpack_all.ensures

pub returns-in-Err-Number : goal.returns-in-Err-Number
returns-in-Err-Number c =
    let bad = rw c.in-Err-Number.field-0-is at c.in-Err-Number.ensures.bad in
    bad_input_is Unpack c.args.shape c.args.shows c.args.accepted.now c.args.context c.args.input.now c.in-Err-Number.number _ _ c.refusal.result bad (c.as_str.ensures.value ∙ c.in_ok-line-in-Err-Number.ensures) (search) c.refusal.ensures
