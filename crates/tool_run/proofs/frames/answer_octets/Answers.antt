use Rattle.std.proofs.Common.{refl}
use Rattle.tool_run.specs.Frames.{AnsweredHex, PrintsReceived, bad_hex, received_octets}
use Rattle.tool_input.proofs.RefusalsHeld.{passed_on, refusal_is}
use Rattle.tool_run.proofs.frames.answer_octets.Goals as goal

pub returns-in-Some : goal.returns-in-Some
returns-in-Some c =
    let octets = rw c.in-Some.is at c.in_ok-octets.ensures.found in
    passed_on (PrintsReceived c.args.accepted.now c.as_slice.result.now) (AnsweredHex c.args.accepted.now c.args.input.now) c.receive_all.result
    (λ s out h. received_octets c.as_slice.result.now (rw c.as_slice.ensures.value octets) h) c.receive_all.ensures

pub returns-in-None : goal.returns-in-None
returns-in-None c =
    let none = rw c.in-None.is at c.in_ok-octets.ensures.none in
    refusal_is (AnsweredHex c.args.accepted.now c.args.input.now) _ _ c.refusal.result (bad_hex none) refl c.refusal.ensures
