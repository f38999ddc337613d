use Rattle.std.proofs.Common.{refl}
use Rattle.tool_words.specs.declared.words.Direction.TheVariants.{Pack, Unpack}
use Rattle.tool_run.specs.Printed.{AnsweredBy, AnsweredRun, both, no_input}
use Rattle.tool_input.proofs.RefusalsHeld.{passed_on, refusal_is}
use Rattle.tool_run.proofs.answers.answer_run.Goals as goal

pub returns-in-Some : goal.returns-in-Some
returns-in-Some c = rw c.in-Pack.is
    (passed_on (AnsweredBy Pack c.args.shape c.args.order.now c.args.profile.now c.args.parts.now c.in-Some.items.now) (AnsweredRun Pack c.args.shape c.args.order.now c.args.profile.now c.args.parts.now) c.answer_by.result (λ s out h. both c.in-Some.items c.in-Some.is h) c.answer_by.ensures)

pub returns-in-None : goal.returns-in-None
returns-in-None c = rw c.in-Pack.is (refusal_is (AnsweredRun Pack c.args.shape c.args.order.now c.args.profile.now c.args.parts.now) _ _ c.refusal.result (no_input c.in-None.is) refl c.refusal.ensures)

pub returns-in-Some-packets : goal.returns-in-Some-packets
returns-in-Some-packets c = rw c.in-Unpack.is
    (passed_on (AnsweredBy Unpack c.args.shape c.args.order.now c.args.profile.now c.args.parts.now c.in-Some-packets.packets.now) (AnsweredRun Unpack c.args.shape c.args.order.now c.args.profile.now c.args.parts.now) c.answer_by-in-Some-packets.result (λ s out h. both c.in-Some-packets.packets c.in-Some-packets.is h) c.answer_by-in-Some-packets.ensures)

pub returns-in-None-packets : goal.returns-in-None-packets
returns-in-None-packets c = rw c.in-Unpack.is
    (refusal_is (AnsweredRun Unpack c.args.shape c.args.order.now c.args.profile.now c.args.parts.now) _ _ c.refusal-in-None-packets.result (no_input c.in-None-packets.is) refl c.refusal-in-None-packets.ensures)
