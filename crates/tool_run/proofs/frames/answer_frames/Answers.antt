use Rattle.std.proofs.Common.{refl}
use Rattle.tool_words.specs.declared.words.End.TheVariants.{Sending, Receiving}
use Rattle.tool_report.specs.Accepting.{origin_of}
use Rattle.tool_run.specs.Frames.{Framed, FramedBy, by_part, no_part}
use Rattle.tool_input.proofs.RefusalsHeld.{passed_on, refusal_is}
use Rattle.tool_run.proofs.frames.answer_frames.Goals as goal

pub returns-in-Some : goal.returns-in-Some
returns-in-Some c = rw c.in-Sending.is
    (passed_on (FramedBy Sending c.args.lost c.args.order.now.top.now c.args.profile.now (origin_of c.args.order.now.version c.args.parts.now.certificate) c.in-Some.events.now) (Framed Sending c.args.lost c.args.order.now c.args.profile.now c.args.parts.now) c.answer_by.result (λ s out h. by_part c.in-Some.events c.in-Some.is h) c.answer_by.ensures)

pub returns-in-None : goal.returns-in-None
returns-in-None c = rw c.in-Sending.is (refusal_is (Framed Sending c.args.lost c.args.order.now c.args.profile.now c.args.parts.now) _ _ c.refusal.result (no_part c.in-None.is) refl c.refusal.ensures)

pub returns-in-Some-octets : goal.returns-in-Some-octets
returns-in-Some-octets c = rw c.in-Receiving.is
    (passed_on (FramedBy Receiving c.args.lost c.args.order.now.top.now c.args.profile.now (origin_of c.args.order.now.version c.args.parts.now.certificate) c.in-Some-octets.octets.now) (Framed Receiving c.args.lost c.args.order.now c.args.profile.now c.args.parts.now) c.answer_by-in-Some-octets.result (λ s out h. by_part c.in-Some-octets.octets c.in-Some-octets.is h) c.answer_by-in-Some-octets.ensures)

pub returns-in-None-octets : goal.returns-in-None-octets
returns-in-None-octets c = rw c.in-Receiving.is (refusal_is (Framed Receiving c.args.lost c.args.order.now c.args.profile.now c.args.parts.now) _ _ c.refusal-in-None-octets.result (no_part c.in-None-octets.is) refl c.refusal-in-None-octets.ensures)
